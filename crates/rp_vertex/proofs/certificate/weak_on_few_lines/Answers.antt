use Rattle.std.proofs.Common.{◌≡◌, List, Some, sym, ap, ◌∙◌}
use Rattle.std.proofs.lemmas.Option.{IfSome_then}
use Rattle.rp_geometry.specs.Geometry.{RationalPoint, HalfSpace}
use Rattle.rp_geometry.specs.searches.Vertex.{first_weak_point, first_vertex, any_point}
use Rattle.rp_convex.proofs.Found.{weak_passes}
use Rattle.rp_vertex.proofs.certificate.weak_on_few_lines.Goals as goal

-- the first vertex of the list is that of the cell
is_first : (c : goal.After-vertex_on_few) (p : RationalPoint) → first_vertex any_point c.as_slice.result.now ≡ Some p → first_weak_point c.args.cell.now ≡ Some p
unfolding first_weak_point
is_first c p e = ap (λ (hs : List HalfSpace). first_vertex any_point hs) (sym (c.as_slice.ensures.value ∙ c.with_cube-system.ensures.items)) ∙ e

pub returns-clause-first : goal.returns-clause-first
returns-clause-first c = IfSome_then c.vertex_on_few.result c.vertex_on_few.ensures (is_first c)

pub returns-clause-passes : goal.returns-clause-passes
returns-clause-passes c = IfSome_then c.vertex_on_few.result c.vertex_on_few.ensures (λ p e. weak_passes c.args.cell.now (Some p) c.with_cube-system.ensures.bounds (sym (is_first c p e)))
