use Rattle.std.proofs.Common.{◌≡◌, drop}
use Rattle.std.specs.Prelude.{option_map}
use Rattle.rp_geometry.specs.searches.Search.{all_of_pairs}
use Rattle.rp_geometry.specs.searches.Vertex.{any_point, vertex_at}
use Rattle.rp_space.specs.Boxes.{integer_box}
use Rattle.rp_vertex.specs.Joined.{joined}
use Rattle.rp_vertex.proofs.bounds.joined_with_one.Given as goal

-- what is joined so far, with the vertices that are left, comes to all
abbrev pub invariant-loop-i : goal.invariant-loop-i
invariant-loop-i l =
    joined (option_map integer_box l.bounds) (all_of_pairs (vertex_at any_point l.system l.f) (drop l.i l.others))
    ≡ joined (option_map integer_box l.fn.bounds) (all_of_pairs (vertex_at any_point l.system l.f) l.others)
