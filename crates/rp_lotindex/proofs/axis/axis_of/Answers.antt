use Rattle.std.proofs.Common.{◌≡◌, ◌-ℤ◌, ℤ, pos, rules, w32, w64, to_z, of_z, get_or, ◌∙◌}
use Rattle.std.proofs.lemmas.Int.{to_z-of_z}
use mir.Val.{SFits}
use Rattle.rp_lotindex.specs.Turns.{axis_by}
use Rattle.rp_lotindex.proofs.axis.axis_of.Goals as goal

-- how far it is from one side to another
as_read : (r a b : ℤ) → SFits w64 r → SFits w32 a → SFits w32 b → r ≡ to_z w32 (of_z w32 b) -ℤ to_z w32 (of_z w32 a) → to_z w64 (of_z w64 r) ≡ b -ℤ a
as_read r a b fr fa fb h = to_z-of_z w64 r fr ∙ h ∙ (λ i. to_z-of_z w32 b fb i -ℤ to_z-of_z w32 a fa i)

pub returns : goal.returns
returns c =
    let lo = c.args.bounds.now.lo in
    let hi = c.args.bounds.now.hi in
    let x = as_read c.extent.result (get_or lo 0 (pos 0)) (get_or hi 0 (pos 0)) (search rules) (search rules) (search rules) c.extent.ensures.value in
    let y = as_read c.extent-2.result (get_or lo 1 (pos 0)) (get_or hi 1 (pos 0)) (search rules) (search rules) (search rules) c.extent-2.ensures.value in
    let z = as_read c.extent-3.result (get_or lo 2 (pos 0)) (get_or hi 2 (pos 0)) (search rules) (search rules) (search rules) c.extent-3.ensures.value in
    c.axis_by.ensures ∙ (λ i. axis_by (x i) (y i) (z i))
