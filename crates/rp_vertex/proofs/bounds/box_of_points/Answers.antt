use Rattle.std.proofs.Common.{ap, arith}
use Rattle.std.specs.Prelude.{Some, option_map}
use Rattle.rp_geometry.specs.Geometry.{reduced_point}
use Rattle.rp_space.specs.Boxes.{integer_box}
use Rattle.rp_vertex.proofs.InBounds.{in_cube_before}
use Rattle.rp_vertex.proofs.Joined.{reduced_stands, point_more, joined_points}
use Rattle.rp_vertex.proofs.bounds.box_of_points.Goals as goal

pub joined_with_point-requires : goal.joined_with_point-requires
joined_with_point-requires c =
    in_cube_before c.p-item.result c.numbers.ensures.small.positive
    (c.requires (reduced_point c.p-item.result) (reduced_stands c.args.points.now c.loop-p.p-index c.p-item.result c.loop-p-test.true c.p-item.is))

pub loop-p-preserved : goal.loop-p-preserved
loop-p-preserved c =
    point_more c.args.points.now c.loop-p.p-index c.p-item.result
    (option_map integer_box c.loop-p.bounds) (Some (integer_box c.joined_with_point.result)) _ c.loop-p-test.true c.p-item.is
    (ap Some c.joined_with_point.ensures) c.loop-p.invariant

pub returns : goal.returns
returns c =
    joined_points c.args.points.now c.loop-p.p-index c.loop-p.bounds c.cube.result c.unwrap_or.result (omega (arith, c.loop-p-test.false)) c.loop-p.invariant c.cube.ensures c.unwrap_or.ensures
