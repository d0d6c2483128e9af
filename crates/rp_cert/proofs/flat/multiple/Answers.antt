use Rattle.std.proofs.Common.{◌≡◌, true, ◌^◌, ◌*ℤ◌, sym, subst, ◌∙◌}
use mir.Syntax.{w32}
use Rattle.rp_algebra.specs.Within.{IsWithin}
use Rattle.rp_algebra.proofs.Machine.{code, fits_by, is_by, within_by, read_is}
use Rattle.rp_geometry.specs.searches.Certificate.{Multiple, is_multiplier}
use Rattle.rp_slice.proofs.Small.{height_within}
use Rattle.rp_space.proofs.Sums.{multiplier_within}
use Rattle.rp_cert.specs.LevelNumbers.{number_at}
use Rattle.rp_cert.proofs.flat.multiple.Goals as goal

-- the multiplier is within its bounds
small_factor : (c : goal.After-number_at) → IsWithin (2 ^ 75) c.term.inside.by
small_factor c = multiplier_within c.term.inside.by (subst (λ (t : Multiple). is_multiplier t.factor ≡ true) (sym c.term.view_is) c.requires.multiplier)

pub overflow_mul-result : goal.overflow_mul-result
overflow_mul-result c = let m = small_factor c in fits_by (search code depth 30 fits 100000) tt

pub returns-clause-small : goal.returns-clause-small
returns-clause-small c = let m = small_factor c in within_by (search code depth 30 fits 100000) tt

pub returns-clause-value : goal.returns-clause-value
returns-clause-value c =
    let m = small_factor c in
    let z = read_is w32 (height_within c.args.z c.requires.height) tt in
    is_by (search code depth 30 fits 100000) tt
    ∙ (λ i. (c.term.view_is i).factor *ℤ c.number_at.ensures.value i)
    ∙ (λ i. c.args.term.now.factor *ℤ number_at c.args.which (z i) (c.term.view_is i).of)
