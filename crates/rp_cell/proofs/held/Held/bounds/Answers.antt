use Rattle.std.proofs.Common.{map, ◌∙◌, ap}
use Rattle.rp_geometry.specs.Geometry.{reduced_point}
use Rattle.rp_geometry.specs.parts.LeastBox.{least_box}
use Rattle.rp_cell.proofs.Boxed.{box_of_all, all_in_cube, least_in_bounds, least_is}
use Rattle.rp_cell.proofs.held.Held.bounds.Goals as goal

pub returns-then-not-self-clause-value : goal.returns-then-not-self-clause-value
returns-then-not-self-clause-value c = c.box_of_vertices.ensures.value ∙ least_is c.halves.result.now ∙ ap least_box c.halves.ensures.value

pub box_of_points-requires : goal.box_of_points-requires
box_of_points-requires c = all_in_cube c.self.inside.clip.halves (map reduced_point c.corners.result.now) c.corners.ensures.vertices

pub returns-clause-value : goal.returns-clause-value
returns-clause-value c =
    c.box_of_points.ensures ∙ box_of_all c.self.inside.clip.halves (map reduced_point c.corners.result.now) c.corners.ensures.vertices
    ∙ ap least_box (c.self.invariant.same c.if-not-self.false ∙ c.self.view_is)

pub returns-clause-bounds : goal.returns-clause-bounds
returns-clause-bounds c = least_in_bounds c.args.self.now _ (returns-clause-value c)
