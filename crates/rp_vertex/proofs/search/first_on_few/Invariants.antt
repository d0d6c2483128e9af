use Rattle.std.proofs.Common.{◌≡◌, drop}
use Rattle.rp_geometry.specs.searches.Search.{first_of_pairs}
use Rattle.rp_geometry.specs.searches.Vertex.{vertex_at}
use Rattle.rp_vertex.specs.Wanted.{is_wanted}
use Rattle.rp_vertex.proofs.search.first_on_few.Given as goal

-- the first of what is left is the first of all
abbrev pub invariant-loop-i : goal.invariant-loop-i
invariant-loop-i l = first_of_pairs (vertex_at (is_wanted l.wanted) l.system l.f) (drop l.i l.others) ≡ first_of_pairs (vertex_at (is_wanted l.wanted) l.system l.f) l.others
