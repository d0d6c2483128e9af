use Rattle.std.proofs.Common.{◌≡◌, List, Some, sym, ap, ◌∙◌}
use Rattle.std.proofs.lemmas.Option.{IfSome_then}
use Rattle.rp_geometry.specs.Geometry.{RationalPoint, HalfSpace, with_cube}
use Rattle.rp_geometry.specs.searches.Vertex.{first_inside, first_vertex, any_point, points_from}
use Rattle.rp_convex.proofs.Found.{inside_passes}
use Rattle.rp_vertex.proofs.certificate.inside_on_few_lines.Goals as goal

-- the points from the first vertex on are the first inside certificate
is_first : (c : goal.After-points_on_few) (points : List RationalPoint) → points_from c.as_slice-2.result.now (Some c.in_ok-first.first) ≡ Some points → first_inside c.args.cell.now ≡ Some points
unfolding first_inside
is_first c points e =
    sym (ap (λ (hs : List HalfSpace). points_from hs (Some c.in_ok-first.first)) (c.as_slice-2.ensures.value ∙ c.with_cube-system.ensures.items)
    ∙ ap (points_from (with_cube c.args.cell.now)) (sym (ap (λ (hs : List HalfSpace). first_vertex any_point hs) (sym (c.as_slice.ensures.value ∙ c.with_cube-system.ensures.items)) ∙ c.in_ok-first.ensures)))
    ∙ e

pub returns-clause-first : goal.returns-clause-first
returns-clause-first c = IfSome_then c.points_on_few.result c.points_on_few.ensures (is_first c)

pub returns-clause-passes : goal.returns-clause-passes
returns-clause-passes c = IfSome_then c.points_on_few.result c.points_on_few.ensures (λ points e. inside_passes c.args.cell.now (Some points) c.with_cube-system.ensures.bounds (sym (is_first c points e)))
