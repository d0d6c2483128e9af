use Rattle.std.proofs.Common.{ap, ◌∙◌}
use Rattle.rp_geometry.specs.Geometry.{is_box_in_bounds}
use Rattle.rp_vertex.proofs.InBounds.{vertices_in_bounds}
use Rattle.rp_vertex.proofs.Joined.{joined_box}
use Rattle.rp_vertex.proofs.bounds.box_of_vertices.Goals as goal

pub returns-clause-value : goal.returns-clause-value
returns-clause-value c =
    joined_box c.args.cell.now c.as_slice.result.now c.box_of_system.result _ c.unwrap_or.result (c.as_slice.ensures.value ∙ c.with_cube-system.ensures.items) c.box_of_system.ensures c.cube.ensures c.unwrap_or.ensures

pub returns-clause-bounds : goal.returns-clause-bounds
returns-clause-bounds c = ap is_box_in_bounds (returns-clause-value c) ∙ vertices_in_bounds c.args.cell.now
