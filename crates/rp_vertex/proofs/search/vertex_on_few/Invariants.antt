use Rattle.std.proofs.Common.{◌≡◌, drop}
use Rattle.rp_geometry.specs.searches.Search.{first_of_triples}
use Rattle.rp_geometry.specs.searches.Vertex.{vertex_at}
use Rattle.rp_vertex.specs.Wanted.{is_wanted}
use Rattle.rp_vertex.proofs.search.vertex_on_few.Given as goal

-- the first of what is left is the first of all
abbrev pub invariant-loop-place : goal.invariant-loop-place
invariant-loop-place l = first_of_triples (vertex_at (is_wanted l.wanted) l.system) (drop l.place l.system) ≡ first_of_triples (vertex_at (is_wanted l.wanted) l.system) l.system
