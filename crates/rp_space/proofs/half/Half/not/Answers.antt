use Rattle.std.proofs.Common.{sym, subst, ap, ◌∙◌}
use Rattle.rp_geometry.specs.Geometry.{half_space_of, complement, IsKeptHalfSpace}
use Rattle.rp_geometry.proofs.Kept.{kept_complement}
use Rattle.rp_space.proofs.Kept.{half_space_negated}
use Rattle.rp_space.proofs.half.Half.not.Goals as goal

pub invariant_of-result : goal.invariant_of-result
invariant_of-result c =
    let h = half_space_of c.self.inside.a c.self.inside.b c.self.inside.c c.self.inside.d in
    subst IsKeptHalfSpace (sym (half_space_negated h c.self.invariant.numbers)) (kept_complement h c.self.invariant)

pub returns : goal.returns
returns c =
    let h = half_space_of c.self.inside.a c.self.inside.b c.self.inside.c c.self.inside.d in
    half_space_negated h c.self.invariant.numbers ∙ ap complement c.self.view_is
