use Rattle.std.proofs.Common.{◌≡◌, List, ap, ◌∙◌}
use Rattle.rp_geometry.specs.Geometry.{HalfSpace}
use Rattle.rp_geometry.specs.searches.Vertex.{first_weak_point, first_vertex, any_point}
use Rattle.rp_convex.proofs.Found.{weak_passes, weak_none}
use Rattle.rp_vertex.proofs.certificate.first_weak.Goals as goal

-- the first vertex of the list is that of the cell
is_first : (c : goal.After-first_vertex) → c.first_vertex.result ≡ first_weak_point c.args.cell.now
unfolding first_weak_point
is_first c = c.first_vertex.ensures ∙ ap (λ (hs : List HalfSpace). first_vertex any_point hs) (c.as_slice.ensures.value ∙ c.with_cube-system.ensures.items)

pub returns-clause-first : goal.returns-clause-first
returns-clause-first c = is_first c

pub returns-clause-passes : goal.returns-clause-passes
returns-clause-passes c = weak_passes c.args.cell.now c.first_vertex.result c.with_cube-system.ensures.bounds (is_first c)

pub returns-clause-none : goal.returns-clause-none
returns-clause-none c = weak_none c.args.cell.now c.first_vertex.result c.with_cube-system.ensures.bounds (is_first c)
