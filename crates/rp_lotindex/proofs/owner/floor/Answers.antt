use Rattle.std.proofs.Common.{ℤ, sym, subst, ◌∙◌}
use Rattle.rp_algebra.specs.Within.{IsWithin}
use Rattle.rp_geometry.specs.Geometry.{half_edge}
use Rattle.rp_geometry.proofs.Rounded.{quotient_is, short_is}
use Rattle.rp_lotindex.proofs.Floored.{floor_within}
use Rattle.rp_lotindex.proofs.owner.floor.Goals as goal

pub returns-clause-value : goal.returns-clause-value
returns-clause-value c =
    let e = quotient_is c.div_euclid.result c.args.v c.args.w c.ranges.v c.ranges.w c.div_euclid.ensures in
    short_is c.div_euclid.result (subst (λ (r : ℤ). IsWithin half_edge r) (sym e) (floor_within c.args.v c.args.w c.requires.weight c.requires.range)) ∙ e

pub returns-clause-small : goal.returns-clause-small
returns-clause-small c = subst (λ (r : ℤ). IsWithin half_edge r) (sym (returns-clause-value c)) (floor_within c.args.v c.args.w c.requires.weight c.requires.range)
