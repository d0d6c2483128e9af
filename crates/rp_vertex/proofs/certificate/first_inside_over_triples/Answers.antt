use Rattle.std.proofs.Common.{◌≡◌, List, ap, ◌∙◌}
use Rattle.rp_geometry.specs.Geometry.{HalfSpace}
use Rattle.rp_geometry.specs.searches.Vertex.{first_inside, first_vertex, any_point, points_from}
use Rattle.rp_convex.proofs.Found.{inside_passes, inside_none}
use Rattle.rp_vertex.proofs.certificate.first_inside_over_triples.Goals as goal

-- the points of the list are those of the cell
is_first : (c : goal.After-first_points) → c.first_points.result ≡ first_inside c.args.cell.now
unfolding first_inside
is_first c = c.first_points.ensures ∙ ap (λ (hs : List HalfSpace). points_from hs (first_vertex any_point hs)) (c.as_slice.ensures.value ∙ c.with_cube-system.ensures.items)

pub returns-clause-first : goal.returns-clause-first
returns-clause-first c = is_first c

pub returns-clause-passes : goal.returns-clause-passes
returns-clause-passes c = inside_passes c.args.cell.now c.first_points.result c.with_cube-system.ensures.bounds (is_first c)

pub returns-clause-none : goal.returns-clause-none
returns-clause-none c = inside_none c.args.cell.now c.first_points.result c.with_cube-system.ensures.bounds (is_first c)
