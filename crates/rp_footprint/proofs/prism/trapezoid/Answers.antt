use Rattle.std.proofs.Common.{rules, FitsSigned, ◌∙◌}
use Rattle.std.proofs.lemmas.Int.{to_z-of_z}
use Rattle.std.specs.Prelude.{slice_index_or}
use mir.Syntax.{w32}
use Rattle.rp_space.specs.Corners.{polygon_corner}
use Rattle.rp_footprint.proofs.Cells.{ends_near_as, heights_near, cell_as_read, heights_read, cell_read, edge_as_read, no_written}
use Rattle.rp_footprint.proofs.prism.trapezoid.Goals as goal

pub cell_of-requires-clause-near : goal.cell_of-requires-clause-near
cell_of-requires-clause-near c =
    ends_near_as c.args.z1 c.args.z2 c.args.corners.now c.args.k _ (polygon_corner c.edge_end.result) c.requires.bounds c.requires.below
    (edge_as_read c.args.corners.now c.args.k c.edge_end.result no_written (polygon_corner c.edge_end.result) c.requires.below c.edge_end.ensures)

pub cell_of-requires-clause-heights : goal.cell_of-requires-clause-heights
cell_of-requires-clause-heights c =
    let z1 : FitsSigned w32 c.args.z1 = search rules in
    let z2 : FitsSigned w32 c.args.z2 = search rules in
    let y : FitsSigned w32 c.least_y.result = search rules in
    heights_read (to_z-of_z w32 c.args.z1 z1) (to_z-of_z w32 c.args.z2 z2) (to_z-of_z w32 c.least_y.result y)
    (heights_near c.args.z1 c.args.z2 c.least_y.result c.args.corners.now c.requires.bounds c.least_y.ensures)

pub returns : goal.returns
returns c =
    let z1 : FitsSigned w32 c.args.z1 = search rules in
    let z2 : FitsSigned w32 c.args.z2 = search rules in
    let y : FitsSigned w32 c.least_y.result = search rules in
    c.cell_of.ensures
    ∙ cell_read (polygon_corner (slice_index_or c.args.corners.now c.args.k no_written)) (polygon_corner c.edge_end.result) (to_z-of_z w32 c.args.z1 z1) (to_z-of_z w32 c.args.z2 z2) (to_z-of_z w32 c.least_y.result y)
    ∙ cell_as_read c.args.z1 c.args.z2 c.least_y.result c.args.corners.now c.args.k (polygon_corner (slice_index_or c.args.corners.now c.args.k no_written)) (polygon_corner c.edge_end.result) c.least_y.ensures
    (edge_as_read c.args.corners.now c.args.k c.edge_end.result no_written (polygon_corner c.edge_end.result) c.requires.below c.edge_end.ensures)
