use Rattle.std.proofs.Common.{◌≡◌, map, ap, ◌∙◌, subst, arith, to_z, of_z}
use Rattle.std.proofs.lemmas.Int.{to_z-of_z}
use mir.Syntax.{w32}
use Rattle.rp_reports.specs.Check.{Trail, taken, slices_told}
use Rattle.rp_answer.specs.Views.{verdict_of}
use Rattle.rp_cert.specs.Section.{slice_shown}
use Rattle.rp_oracle.specs.declared.stopped.Stopped.{Stopped}
use Rattle.rp_oracle.specs.declared.stopped.Stopped.TheVariants.{Wrong}
use Rattle.rp_oracle.specs.Refines.{StopsBy}
use Rattle.rp_check_state.specs.Slices.{follow_section_lines}
use Rattle.rp_check_state.proofs.Sliced.{slices_counted, slices_told_all, line_is_wrong}
use Rattle.rp_check_state.proofs.slices.section.Goals as goal

pub slice_lines-requires : goal.slice_lines-requires
slice_lines-requires c =
    let few = c.requires.few in
    let many = slices_counted (to_z w32 (of_z w32 c.args.z)) c.args.form.now.items (taken c.ahead-ahead.result).lines c.in-Ok.slices.items c.in-Ok.ensures.told in
    omega (arith, few, many)

pub returns-in_ok-slice_lines-in-Ok : goal.returns-in_ok-slice_lines-in-Ok
returns-in_ok-slice_lines-in-Ok c =
    let told = subst (λ z. map slice_shown c.in-Ok.slices.items ≡ slices_told z c.args.form.now.items (taken c.ahead-ahead.result).lines) (to_z-of_z w32 c.args.z c.ranges.z) c.in-Ok.ensures.told in
    slices_told_all c.args.z c.args.form.now.items c.args.trail.now c.in-Ok.slices.items (map verdict_of c.in_ok-slice_lines-in-Ok.field-0.items)
    (told ∙ ap (λ (t : Trail). slices_told c.args.z c.args.form.now.items (taken t).lines) c.ahead-ahead.ensures) c.in_ok-slice_lines-in-Ok.ensures

pub returns-in-Err-Wrong : goal.returns-in-Err-Wrong
returns-in-Err-Wrong c =
    let ps = c.args.form.now.items in
    let e = c.in-Err-Wrong.field-0 in
    let u = c.follow_slices.new.trail in
    let stops = subst (λ z. StopsBy e u (follow_section_lines z ps c.ahead-ahead.result)) (to_z-of_z w32 c.args.z c.ranges.z) c.in-Err-Wrong.ensures.comes in
    let wrong = subst (λ (x : Stopped). StopsBy x u (follow_section_lines c.args.z ps c.ahead-ahead.result)) c.in-Err-Wrong.field-0-is stops in
    line_is_wrong c.args.z ps c.args.trail.now c.number.result u c.number.ensures (subst (λ (t : Trail). StopsBy Wrong u (follow_section_lines c.args.z ps t)) c.ahead-ahead.ensures wrong)
