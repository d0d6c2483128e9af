use Rattle.std.specs.Prelude.{option_map}
use Rattle.rp_geometry.specs.searches.Vertex.{any_point, vertex_at}
use Rattle.rp_space.specs.Boxes.{integer_box}
use Rattle.rp_vertex.proofs.Joined.{third_more}
use Rattle.rp_vertex.proofs.bounds.joined_with_two.Goals as goal

pub loop-h-preserved : goal.loop-h-preserved
loop-h-preserved c =
    third_more (vertex_at any_point c.args.system.now c.args.pair.now.first c.args.pair.now.second) c.args.others.now c.loop-h.h-index c.h-item.result
    (option_map integer_box c.loop-h.bounds) (option_map integer_box c.joined_on-bounds.result) _ c.loop-h-test.true c.h-item.is
    c.joined_on-bounds.ensures c.loop-h.invariant
