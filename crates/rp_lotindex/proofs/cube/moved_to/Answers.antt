use Rattle.std.proofs.Common.{◌≡◌, ℕ, ◌%◌, ◌/◌, ℤ, pos, rules, w32, to_z, of_z, get_or, ◌∙◌}
use Rattle.std.proofs.lemmas.Int.{to_z-of_z}
use mir.Val.{SFits}
use Rattle.rp_lotindex.specs.Cubes.{step_of, moved_low, moved_high, moved_to}
use Rattle.rp_lotindex.proofs.cube.moved_to.Goals as goal

-- a side that was moved by a step
as_read : (move : ℤ → ℤ → ℤ) (r s t v : ℤ) → SFits w32 r → SFits w32 s → SFits w32 v → s ≡ t → r ≡ move (to_z w32 (of_z w32 s)) (to_z w32 (of_z w32 v)) → to_z w32 (of_z w32 r) ≡ move t v
as_read move r s t v fr fs fv e h = to_z-of_z w32 r fr ∙ h ∙ (λ i. move ((to_z-of_z w32 s fs ∙ e) i) (to_z-of_z w32 v fv i))

pub returns : goal.returns
unfolding moved_to
returns c =
    let lo = c.args.bounds.now.lo in
    let hi = c.args.bounds.now.hi in
    let n : ℕ = c.args.number in
    let x = c.step_of-x.ensures.value in
    let y = c.step_of-y.ensures.value in
    let z = c.step_of-z.ensures.value in
    let fx : SFits w32 c.step_of-x.result = search rules in
    let fy : SFits w32 c.step_of-y.result = search rules in
    let fz : SFits w32 c.step_of-z.result = search rules in
    let x1 = as_read moved_low c.moved_low.result c.step_of-x.result (step_of (n % 64)) (get_or lo 0 (pos 0)) (search rules) fx (search rules) x c.moved_low.ensures in
    let y1 = as_read moved_low c.moved_low-2.result c.step_of-y.result (step_of (n / 64 % 64)) (get_or lo 1 (pos 0)) (search rules) fy (search rules) y c.moved_low-2.ensures in
    let z1 = as_read moved_low c.moved_low-3.result c.step_of-z.result (step_of (n / 4096 % 64)) (get_or lo 2 (pos 0)) (search rules) fz (search rules) z c.moved_low-3.ensures in
    let x2 = as_read moved_high c.moved_high.result c.step_of-x.result (step_of (n % 64)) (get_or hi 0 (pos 0)) (search rules) fx (search rules) x c.moved_high.ensures in
    let y2 = as_read moved_high c.moved_high-2.result c.step_of-y.result (step_of (n / 64 % 64)) (get_or hi 1 (pos 0)) (search rules) fy (search rules) y c.moved_high-2.ensures in
    let z2 = as_read moved_high c.moved_high-3.result c.step_of-z.result (step_of (n / 4096 % 64)) (get_or hi 2 (pos 0)) (search rules) fz (search rules) z c.moved_high-3.ensures in
    λ i. record { x1 = x1 i; y1 = y1 i; z1 = z1 i; x2 = x2 i; y2 = y2 i; z2 = z2 i }
