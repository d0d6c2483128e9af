use Rattle.std.proofs.Common.{◌&&◌, sym, ap, ◌∙◌}
use Rattle.rp_geometry.specs.sets.Shape.{passes, shape_of_parts}
use Rattle.rp_row_soundness.proofs.Points.{in_parts_is_member}
use Rattle.rp_trail.proofs.member.holds.Goals as goal

pub returns-then-is_in_cube-clause-in_parts : goal.returns-then-is_in_cube-clause-in_parts
returns-then-is_in_cube-clause-in_parts c =
    let p = c.args.point.now in
    let ps = c.args.form.now.items in
    c.passes_form.ensures ∙ ap (λ b. b && passes (shape_of_parts ps) p) c.if-is_in_cube.ensures ∙ sym (in_parts_is_member ps p)

pub returns-else-is_in_cube-clause-in_parts : goal.returns-else-is_in_cube-clause-in_parts
returns-else-is_in_cube-clause-in_parts c =
    let p = c.args.point.now in
    let ps = c.args.form.now.items in
    c.if-is_in_cube.false ∙ ap (λ b. b && passes (shape_of_parts ps) p) c.if-is_in_cube.ensures ∙ sym (in_parts_is_member ps p)
