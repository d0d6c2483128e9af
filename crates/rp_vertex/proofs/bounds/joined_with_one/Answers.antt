use Rattle.std.proofs.Common.{◌-◌, ◌+◌, length, take, drop, ap, ◌∙◌}
use Rattle.std.specs.Prelude.{filter_map, option_map}
use Rattle.rp_geometry.specs.searches.Vertex.{any_point, vertex_at}
use Rattle.rp_space.specs.Boxes.{integer_box}
use Rattle.rp_space.specs.TwoHalfSpaces.{TwoHalfSpaces}
use Rattle.rp_vertex.specs.Joined.{joined}
use Rattle.rp_vertex.proofs.Joined.{second_more}
use Rattle.rp_vertex.proofs.bounds.joined_with_one.Goals as goal

pub loop-i-preserved : goal.loop-i-preserved
loop-i-preserved c =
    let hs = c.args.others.now in
    let i = c.loop-i.i in
    second_more (vertex_at any_point c.args.system.now c.args.f.now) hs i c.index-others-i.result
    (option_map integer_box c.loop-i.bounds) (option_map integer_box c.joined_with_two-bounds.result) _ c.loop-i-test.true c.index-others-i.is
    (c.joined_with_two-bounds.ensures
    ∙ ap (λ (p : TwoHalfSpaces). joined (option_map integer_box c.loop-i.bounds) (filter_map (vertex_at any_point c.args.system.now p.first p.second) (take (length hs - (i + 1)) (drop (i + 1) hs)))) c.new-pair.ensures)
    c.loop-i.invariant
