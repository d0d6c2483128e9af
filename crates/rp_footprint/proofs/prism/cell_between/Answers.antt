use Rattle.std.proofs.Common.{rules, ◌≡◌, FitsSigned, ap, ◌∙◌}
use Rattle.std.specs.Prelude.{Some}
use Rattle.std.proofs.lemmas.Int.{to_z-of_z}
use mir.Syntax.{w32}
use Rattle.rp_geometry.specs.Geometry.{is_box_in_bounds, box_half_spaces}
use Rattle.rp_space.specs.Corners.{polygon_corner}
use Rattle.rp_footprint.specs.Cells.{box_under}
use Rattle.rp_footprint.proofs.Made.{read_cell, box_is_near, same_box, some_inside}
use Rattle.rp_footprint.proofs.prism.cell_between.Goals as goal

pub box_halves-requires : goal.box_halves-requires
box_halves-requires c =
    let z1 : FitsSigned w32 c.args.z1 = search rules in
    let z2 : FitsSigned w32 c.args.z2 = search rules in
    let y : FitsSigned w32 c.args.least = search rules in
    let lx : FitsSigned w32 c.args.left.x = search rules in
    let rx : FitsSigned w32 c.args.right.x = search rules in
    ap is_box_in_bounds (same_box (to_z-of_z w32 c.args.z1 z1) (to_z-of_z w32 c.args.z2 z2) (to_z-of_z w32 c.args.least y) (to_z-of_z w32 c.args.left.x lx) (to_z-of_z w32 c.args.right.x rx))
    ∙ box_is_near c.args.z1 c.args.z2 c.args.least (polygon_corner c.args.left) (polygon_corner c.args.right) c.requires.heights c.requires.order

pub returns : goal.returns
returns c =
    let z1 : FitsSigned w32 c.args.z1 = search rules in
    let z2 : FitsSigned w32 c.args.z2 = search rules in
    let y : FitsSigned w32 c.args.least = search rules in
    let lx : FitsSigned w32 c.args.left.x = search rules in
    let rx : FitsSigned w32 c.args.right.x = search rules in
    let halves : c.box_halves.result ≡ box_half_spaces (box_under c.args.z1 c.args.z2 c.args.least (polygon_corner c.args.left) (polygon_corner c.args.right)) =
    c.box_halves.ensures
    ∙ ap box_half_spaces (same_box (to_z-of_z w32 c.args.z1 z1) (to_z-of_z w32 c.args.z2 z2) (to_z-of_z w32 c.args.least y) (to_z-of_z w32 c.args.left.x lx) (to_z-of_z w32 c.args.right.x rx)) in
    ap Some (read_cell c.args.z1 c.args.z2 c.args.least (polygon_corner c.args.left) (polygon_corner c.args.right) c.box_halves.result _ _ _ _ _ c.in_ok-below.below halves (some_inside c.in_ok-below.below _ c.in_ok-below.ensures))
