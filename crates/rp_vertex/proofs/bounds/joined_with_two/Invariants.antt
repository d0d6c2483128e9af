use Rattle.std.proofs.Common.{◌≡◌, drop}
use Rattle.std.specs.Prelude.{filter_map, option_map}
use Rattle.rp_geometry.specs.searches.Vertex.{any_point, vertex_at}
use Rattle.rp_space.specs.Boxes.{integer_box}
use Rattle.rp_vertex.specs.Joined.{joined}
use Rattle.rp_vertex.proofs.bounds.joined_with_two.Given as goal

-- what is joined so far, with the vertices that are left, comes to all
abbrev pub invariant-loop-h : goal.invariant-loop-h
invariant-loop-h l =
    joined (option_map integer_box l.bounds) (filter_map (vertex_at any_point l.system l.pair.first l.pair.second) (drop l.h-index l.others))
    ≡ joined (option_map integer_box l.fn.bounds) (filter_map (vertex_at any_point l.system l.pair.first l.pair.second) l.others)
