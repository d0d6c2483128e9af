use Rattle.std.proofs.Common.{◌≡◌, true, sym, ◌∙◌, ap, subst, pos, Ok}
use Rattle.std.specs.Prelude.{int_le}
use mir.Syntax.{w128}
use Rattle.rp_geometry.specs.Geometry.{point_of, is_point_in_bounds, IsSmallPoint, reduced_point}
use Rattle.rp_space.proofs.Kept.{read_point, small_point, from_one_on}
use Rattle.rp_space.proofs.point.Point.new.Goals as goal

pub reduced-requires : goal.reduced-requires
reduced-requires c =
    let same = read_point w128 c.args.x c.args.y c.args.z c.args.w c.ranges.x c.ranges.y c.ranges.z c.ranges.w in
    let p = point_of c.args.x c.args.y c.args.z c.args.w in
    let inside : is_point_in_bounds p ≡ true = ap is_point_in_bounds (sym same) ∙ sym c.is_in_bounds.ensures ∙ c.if-not-is_in_bounds.false in
    subst IsSmallPoint (sym same) (small_point p (from_one_on c.args.w c.ranges.w c.if-w-lt1.false) inside)

pub returns : goal.returns
returns c =
    let same = read_point w128 c.args.x c.args.y c.args.z c.args.w c.ranges.x c.ranges.y c.ranges.z c.ranges.w in
    let p = point_of c.args.x c.args.y c.args.z c.args.w in
    let inside : is_point_in_bounds p ≡ true = ap is_point_in_bounds (sym same) ∙ sym c.is_in_bounds.ensures ∙ c.if-not-is_in_bounds.false in
    let positive : int_le (pos 1) c.args.w ≡ true = from_one_on c.args.w c.ranges.w c.if-w-lt1.false in
    let value : c.reduced.result ≡ reduced_point p = c.reduced.ensures ∙ ap reduced_point same in
    rw (positive, inside) (ap Ok value)
