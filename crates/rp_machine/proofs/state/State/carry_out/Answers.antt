use Rattle.std.proofs.Common.{List, rules, w32, FitsSigned, to_z, of_z, sym, ap, ◌∙◌, subst}
use Rattle.std.proofs.lemmas.Int.{to_z-of_z}
use Rattle.rp_geometry.specs.sections.Trace.{IsHeight}
use Rattle.std.proofs.lemmas.Result.{err_from_is_err_and}
use Rattle.rp_geometry.specs.sets.Shape.{Part}
use Rattle.rp_semantics.specs.Walk.{first_tester}
use Rattle.rp_command.specs.Views.{command_of}
use Rattle.rp_model.specs.commands.Row.{row}
use Rattle.rp_model.specs.commands.Access.{row_access}
use Rattle.rp_model.specs.commands.Audit.{row_audit}
use Rattle.rp_model.specs.commands.Neighbours.{row_neighbours}
use Rattle.rp_model.specs.commands.Section.{row_section}
use Rattle.rp_register_state.specs.declared.reply.Row.{Row as CodeRow}
use Rattle.rp_register_state.specs.Rows.{rest_of, IsReadyRow}
use Rattle.rp_register_state.proofs.Told.{question_replied}
use Rattle.rp_machine.proofs.state.State.carry_out.Goals as goal

pub returns-in_err-reply : goal.returns-in_err-reply
returns-in_err-reply g c =
    let p = err_from_is_err_and c.from_residual.result c.from_residual.ensures.1 in
    rw (p.1, p.2) c.in_err-reply.ensures.goes_on

pub returns-in-Replied : goal.returns-in-Replied
returns-in-Replied g c = c.in_ok-reply.ensures.goes_on ∙ ap (λ (r : CodeRow (List Part)). rest_of first_tester (λ f. f) c.args.self.now r c.carry_out.new.tests) c.in-Replied.is

pub returns-in-Neighbours : goal.returns-in-Neighbours
returns-in-Neighbours g c =
    let s = c.args.self.now in
    let w = c.carry_out.new.tests in
    question_replied (λ f. f) c.told.result c.neighbours.result c.neighbours.new.work (row first_tester s (command_of c.args.command.now) c.args.work.now) (row_neighbours first_tester s c.in-Neighbours.id w)
    (c.in_ok-reply.ensures.goes_on ∙ ap (λ (r : CodeRow (List Part)). rest_of first_tester (λ f. f) s r w) c.in-Neighbours.is) c.told.ensures c.neighbours.ensures

pub returns-in-Audit : goal.returns-in-Audit
returns-in-Audit g c =
    let s = c.args.self.now in
    let w = c.carry_out.new.tests in
    question_replied (λ f. f) c.told-in-Audit.result c.audit.result c.audit.new.work (row first_tester s (command_of c.args.command.now) c.args.work.now) (row_audit first_tester s w)
    (c.in_ok-reply.ensures.goes_on ∙ ap (λ (r : CodeRow (List Part)). rest_of first_tester (λ f. f) s r w) c.in-Audit.is) c.told-in-Audit.ensures c.audit.ensures

pub returns-in-Access : goal.returns-in-Access
returns-in-Access g c =
    let s = c.args.self.now in
    let w = c.carry_out.new.tests in
    question_replied (λ f. f) c.told-in-Access.result c.access.result c.access.new.work (row first_tester s (command_of c.args.command.now) c.args.work.now) (row_access first_tester s c.in-Access.from c.in-Access.to w)
    (c.in_ok-reply.ensures.goes_on ∙ ap (λ (r : CodeRow (List Part)). rest_of first_tester (λ f. f) s r w) c.in-Access.is) c.told-in-Access.ensures c.access.ensures

pub slices-requires-clause-few : goal.slices-requires-clause-few
slices-requires-clause-few g c = (subst (λ (r : CodeRow (List Part)). IsReadyRow (λ f. f) r) c.in-Section.is c.in_ok-reply.ensures.ready).0

pub slices-requires-clause-height : goal.slices-requires-clause-height
slices-requires-clause-height g c =
    let fits : FitsSigned w32 c.in-Section.z = search rules in
    subst IsHeight (sym (to_z-of_z w32 c.in-Section.z fits)) (subst (λ (r : CodeRow (List Part)). IsReadyRow (λ f. f) r) c.in-Section.is c.in_ok-reply.ensures.ready).1

pub returns-in-Section : goal.returns-in-Section
returns-in-Section g c =
    let s = c.args.self.now in
    let w = c.carry_out.new.tests in
    let z = c.in-Section.z in
    let form = c.in-Section.form in
    let fits : FitsSigned w32 z = search rules in
    question_replied (λ f. f) c.told-in-Section.result c.slices.result w (row first_tester s (command_of c.args.command.now) c.args.work.now) (row_section first_tester (to_z w32 (of_z w32 z)) form w)
    (c.in_ok-reply.ensures.goes_on ∙ ap (λ (r : CodeRow (List Part)). rest_of first_tester (λ f. f) s r w) c.in-Section.is ∙ ap (λ y. row_section first_tester y form w) (sym (to_z-of_z w32 z fits))) c.told-in-Section.ensures (c.slices.ensures w)
