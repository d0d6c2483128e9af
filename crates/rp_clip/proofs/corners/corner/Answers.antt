use Rattle.std.proofs.Common.{rules, pos, ap, ◌∙◌}
use Rattle.std.specs.Int.RustNames.{FitsSigned}
use Rattle.std.proofs.lemmas.Int.{to_z-of_z}
use mir.Syntax.{w32}
use Rattle.rp_geometry.specs.Geometry.{reduced_point, point_of}
use Rattle.rp_clip.proofs.CubeCorners.{corner_is}
use Rattle.rp_clip.proofs.corners.corner.Goals as goal

pub returns : goal.returns
returns c =
    let fits_x : FitsSigned w32 c.edge.result = search rules in
    let fits_y : FitsSigned w32 c.edge-2.result = search rules in
    let fits_z : FitsSigned w32 c.edge-3.result = search rules in
    let x = to_z-of_z w32 c.edge.result fits_x ∙ c.edge.ensures in
    let y = to_z-of_z w32 c.edge-2.result fits_y ∙ c.edge-2.ensures in
    let z = to_z-of_z w32 c.edge-3.result fits_z ∙ c.edge-3.ensures in
    ap reduced_point (c.whole.ensures ∙ (λ i. point_of (x i) (y i) (z i) (pos 1))) ∙ corner_is c.args.x c.args.y c.args.z
