use Rattle.std.specs.Prelude.{option_map}
use Rattle.rp_geometry.specs.searches.Vertex.{any_point, vertex_at}
use Rattle.rp_space.specs.Boxes.{integer_box}
use Rattle.rp_vertex.proofs.Joined.{first_more}
use Rattle.rp_vertex.proofs.bounds.box_of_system.Goals as goal

pub loop-i-preserved : goal.loop-i-preserved
loop-i-preserved c =
    first_more (vertex_at any_point c.args.system.now) c.args.system.now c.loop-i.i c.index-system-i.result
    (option_map integer_box c.loop-i.bounds) (option_map integer_box c.joined_with_one-bounds.result) _ c.loop-i-test.true c.index-system-i.is
    c.joined_with_one-bounds.ensures c.loop-i.invariant
