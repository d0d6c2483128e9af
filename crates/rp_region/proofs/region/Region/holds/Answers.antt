use Rattle.std.proofs.Common.{◌&&◌, ap, ◌∙◌}
use Rattle.std.specs.List.{list_any}
use Rattle.rp_geometry.specs.Geometry.{all_hold}
use Rattle.rp_geometry.specs.sets.Shape.{passes, shape_of_parts}
use Rattle.rp_geometry.proofs.Members.{some_passes}
use Rattle.rp_region.proofs.region.Region.holds.Goals as goal

pub returns-then-is_in_cube : goal.returns-then-is_in_cube
returns-then-is_in_cube c =
    let p = c.args.p.now in
    let parts = c.args.self.now in
    c.is_in_some.ensures ∙ ap (list_any (λ part. all_hold part.cell p)) (c.items.ensures ∙ c.self.view_is) ∙ some_passes parts p
    ∙ ap (λ b. b && passes (shape_of_parts parts) p) c.if-is_in_cube.ensures
