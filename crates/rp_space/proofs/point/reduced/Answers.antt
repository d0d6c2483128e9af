use Rattle.std.proofs.Common.{sym, ◌∙◌, subst, rules}
use Rattle.std.specs.Int.RustNames.{FitsSigned}
use mir.Syntax.{w128}
use Rattle.rp_geometry.specs.Geometry.{point_of, reduced_point, IsKeptPoint}
use Rattle.rp_space.proofs.Kept.{read_quotient, read_divisor, kept_point}
use Rattle.rp_space.proofs.point.reduced.Goals as goal

pub returns : goal.returns
unfolding reduced_point
returns c =
    let g = c.divisor_of-divisor.result in
    let d = c.divisor_of-divisor.ensures.value ∙ read_divisor w128 c.args.x c.args.y c.args.z c.args.w c.ranges.x c.ranges.y c.ranges.z c.ranges.w in
    let fx : FitsSigned w128 c.quotient.result = search rules in
    let qx = read_quotient w128 c.quotient.result c.args.x g _ fx c.ranges.x c.quotient.ensures d in
    let fy : FitsSigned w128 c.quotient-2.result = search rules in
    let qy = read_quotient w128 c.quotient-2.result c.args.y g _ fy c.ranges.y c.quotient-2.ensures d in
    let fz : FitsSigned w128 c.quotient-3.result = search rules in
    let qz = read_quotient w128 c.quotient-3.result c.args.z g _ fz c.ranges.z c.quotient-3.ensures d in
    let fw : FitsSigned w128 c.quotient-4.result = search rules in
    let qw = read_quotient w128 c.quotient-4.result c.args.w g _ fw c.ranges.w c.quotient-4.ensures d in
    λ i. point_of (qx i) (qy i) (qz i) (qw i)

pub invariant_of-result : goal.invariant_of-result
invariant_of-result c = subst IsKeptPoint (sym (returns c)) (kept_point (point_of c.args.x c.args.y c.args.z c.args.w) c.requires)
