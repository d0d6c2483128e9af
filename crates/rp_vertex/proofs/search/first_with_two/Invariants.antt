use Rattle.std.proofs.Common.{◌≡◌, drop}
use Rattle.rp_geometry.specs.searches.Search.{first_of}
use Rattle.rp_geometry.specs.searches.Vertex.{vertex_at}
use Rattle.rp_vertex.specs.Wanted.{is_wanted}
use Rattle.rp_vertex.proofs.search.first_with_two.Given as goal

-- the first of what is left is the first of all
abbrev pub invariant-loop-h : goal.invariant-loop-h
invariant-loop-h l =
    first_of (vertex_at (is_wanted l.wanted) l.system l.pair.first l.pair.second) (drop l.h-index l.others)
    ≡ first_of (vertex_at (is_wanted l.wanted) l.system l.pair.first l.pair.second) l.others
