use Rattle.std.proofs.Common.{rules, ◌+◌, to_z, of_z, FitsSigned, sym, ◌∙◌}
use Rattle.std.proofs.lemmas.Int.{to_z-of_z}
use Rattle.std.specs.Prelude.{slice_index_or}
use mir.Syntax.{w32}
use Rattle.rp_space.specs.Corners.{polygon_corner}
use Rattle.rp_footprint.proofs.Cells.{ends_near_as, heights_near, cell_as_read, heights_read, cell_read, edge_as_read, no_written}
use Rattle.rp_footprint.proofs.Inside.{counting_goes_on, counting_ends, counting_read}
use Rattle.rp_footprint.proofs.prism.prism_holds.Goals as goal

pub cell_of-cell-requires-clause-near : goal.cell_of-cell-requires-clause-near
cell_of-cell-requires-clause-near c =
    ends_near_as c.args.z1 c.args.z2 c.args.corners.now c.loop-k.k _ (polygon_corner c.edge_end.result) c.requires c.loop-k-test.true
    (edge_as_read c.args.corners.now c.loop-k.k c.edge_end.result no_written (polygon_corner c.edge_end.result) c.loop-k-test.true c.edge_end.ensures)

pub cell_of-cell-requires-clause-heights : goal.cell_of-cell-requires-clause-heights
cell_of-cell-requires-clause-heights c =
    let z1 : FitsSigned w32 c.args.z1 = search rules in
    let z2 : FitsSigned w32 c.args.z2 = search rules in
    let y : FitsSigned w32 c.least_y-least.result = search rules in
    heights_read (to_z-of_z w32 c.args.z1 z1) (to_z-of_z w32 c.args.z2 z2) (to_z-of_z w32 c.least_y-least.result y)
    (heights_near c.args.z1 c.args.z2 c.least_y-least.result c.args.corners.now c.requires c.least_y-least.ensures)

pub loop-k-preserved : goal.loop-k-preserved
loop-k-preserved c =
    let z1 : FitsSigned w32 c.args.z1 = search rules in
    let z2 : FitsSigned w32 c.args.z2 = search rules in
    let y : FitsSigned w32 c.least_y-least.result = search rules in
    let e1 = to_z-of_z w32 c.args.z1 z1 in
    let e2 = to_z-of_z w32 c.args.z2 z2 in
    let cell =
    c.cell_of-cell.ensures
    ∙ cell_read (polygon_corner (slice_index_or c.args.corners.now c.loop-k.k no_written)) (polygon_corner c.edge_end.result) e1 e2 (to_z-of_z w32 c.least_y-least.result y)
    ∙ cell_as_read c.args.z1 c.args.z2 c.least_y-least.result c.args.corners.now c.loop-k.k (polygon_corner (slice_index_or c.args.corners.now c.loop-k.k no_written)) (polygon_corner c.edge_end.result) c.least_y-least.ensures
    (edge_as_read c.args.corners.now c.loop-k.k c.edge_end.result no_written (polygon_corner c.edge_end.result) c.loop-k-test.true c.edge_end.ensures) in
    counting_read c.args.z1 c.args.z2 (to_z w32 (of_z w32 c.args.z1)) (to_z w32 (of_z w32 c.args.z2)) c.args.corners.now c.args.p.now c.flipped-odd.result (c.loop-k.k + 1) (sym e1) (sym e2)
    (counting_goes_on c.args.z1 c.args.z2 c.args.corners.now c.args.p.now c.loop-k.k c.loop-k.odd c.cell_of-cell.result c.is_inside.result c.flipped-odd.result c.loop-k-test.true
    (counting_read (to_z w32 (of_z w32 c.args.z1)) (to_z w32 (of_z w32 c.args.z2)) c.args.z1 c.args.z2 c.args.corners.now c.args.p.now c.loop-k.odd c.loop-k.k e1 e2 c.loop-k.invariant)
    cell c.is_inside.ensures c.flipped-odd.ensures)

pub returns : goal.returns
returns c =
    let z1 : FitsSigned w32 c.args.z1 = search rules in
    let z2 : FitsSigned w32 c.args.z2 = search rules in
    counting_ends c.args.z1 c.args.z2 c.args.corners.now c.args.p.now c.loop-k.k c.loop-k.odd c.requires c.loop-k-test.false
    (counting_read (to_z w32 (of_z w32 c.args.z1)) (to_z w32 (of_z w32 c.args.z2)) c.args.z1 c.args.z2 c.args.corners.now c.args.p.now c.loop-k.odd c.loop-k.k (to_z-of_z w32 c.args.z1 z1) (to_z-of_z w32 c.args.z2 z2) c.loop-k.invariant)
    c.if-not-is_in_cube.ensures
