use Rattle.std.proofs.Common.{rules, FitsSigned, w32, List, sym, ap, ◌∙◌}
use Rattle.std.proofs.lemmas.Int.{to_z-of_z}
use Rattle.rp_geometry.specs.sections.Slice.{Slice}
use Rattle.rp_semantics.specs.Walk.{done}
use Rattle.rp_model.specs.commands.Verdict.{Verdict, section_lines}
use Rattle.rp_model.specs.commands.Reply.{reply_lines}
use Rattle.rp_section.specs.Shown.{slices_of}
use Rattle.rp_machine.proofs.RowLemmas.{section_told}
use Rattle.rp_machine.proofs.rows.slices.Goals as goal

pub returns : goal.returns
returns c w =
    let z = c.args.z in
    let fits : FitsSigned w32 z = search rules in
    section_told z c.args.form.now w
    ∙ ap (λ (slices : List Slice). done (reply_lines (section_lines slices)) w) (sym (c.in_ok-slices.ensures ∙ ap (λ y. slices_of y c.args.form.now) (to_z-of_z w32 z fits)))
    ∙ ap (λ (vs : List Verdict). done (reply_lines vs) w) (sym c.in_ok-slice_lines.ensures)
