use Rattle.std.proofs.Common.{◌≡◌, Result, Ok, Err, rules, w32, FitsSigned, ap, sym, ◌∙◌, subst}
use Rattle.std.proofs.lemmas.Int.{to_z-of_z}
use Rattle.rp_geometry.specs.sections.Trace.{IsHeight}
use Rattle.std.proofs.lemmas.Result.{err_from_is_err_and}
use Rattle.rp_geometry.specs.sets.Shape.{Part}
use Rattle.rp_lists.specs.Listed.{Listed}
use Rattle.rp_command.specs.Views.{command_of}
use Rattle.rp_semantics.specs.Walk.{Outcome}
use Rattle.rp_model.specs.commands.Reply.{Reply as ModelReply}
use Rattle.rp_model.specs.commands.Row.{row}
use Rattle.rp_model.specs.commands.Access.{row_access}
use Rattle.rp_model.specs.commands.Audit.{row_audit}
use Rattle.rp_model.specs.commands.Neighbours.{row_neighbours}
use Rattle.rp_model.specs.commands.Section.{row_section}
use Rattle.rp_reports.specs.Check.{Trail, line_tester}
use Rattle.rp_answer.specs.declared.answer.Verdict.{Verdict as CodeVerdict}
use Rattle.rp_answer.specs.declared.reply.RowEnd.{RowEnd}
use Rattle.rp_answer.specs.Replies.{Tells}
use Rattle.rp_register_state.specs.declared.reply.Row.{Row as CodeRow}
use Rattle.rp_register_state.specs.Rows.{rest_of, IsReadyRow}
use Rattle.rp_check_state.specs.declared.followed.Followed.{Followed}
use Rattle.rp_check_state.specs.Followed.{IsFollowed, followed_told}
use Rattle.rp_checker.proofs.rows.carried_out.Goals as goal

-- a question that is left was followed
question_followed : (r : Result Followed RowEnd) (q : Result (Listed CodeVerdict) RowEnd) (t : Trail) (o left : Outcome Trail ModelReply) → o ≡ left → r ≡ followed_told q → Tells q t left → IsFollowed r t o
question_followed r q t o left same is h = subst (λ (x : Result Followed RowEnd). IsFollowed x t o) (sym is) (subst (λ (p : Outcome Trail ModelReply). IsFollowed (followed_told q) t p) (sym same) (by q h))
  where
    by : (q : Result (Listed CodeVerdict) RowEnd) → Tells q t left → IsFollowed (followed_told q) t left
    by (Ok lines) h = h
    by (Err e) h = h

pub returns-in_err-reply : goal.returns-in_err-reply
returns-in_err-reply c =
    let p = err_from_is_err_and c.from_residual.result c.from_residual.ensures.1 in
    rw (p.1, p.2) c.in_err-reply.ensures.goes_on

pub returns-in-Replied : goal.returns-in-Replied
returns-in-Replied c = c.in_ok-reply.ensures.goes_on ∙ ap (λ (r : CodeRow (Listed Part)). rest_of line_tester (λ f. f.items) c.args.register.now r c.carry_out.new.tests) c.in-Replied.is

pub returns-in-Neighbours : goal.returns-in-Neighbours
returns-in-Neighbours c =
    let s = c.args.register.now in
    let t = c.carry_out.new.tests in
    question_followed c.told.result c.neighbours.result c.neighbours.new.trail (row line_tester s (command_of c.args.command.now) c.args.trail.now) (row_neighbours line_tester s c.in-Neighbours.id t)
    (c.in_ok-reply.ensures.goes_on ∙ ap (λ (r : CodeRow (Listed Part)). rest_of line_tester (λ f. f.items) s r t) c.in-Neighbours.is) c.told.ensures c.neighbours.ensures

pub returns-in-Audit : goal.returns-in-Audit
returns-in-Audit c =
    let s = c.args.register.now in
    let t = c.carry_out.new.tests in
    question_followed c.told-in-Audit.result c.audit.result c.audit.new.trail (row line_tester s (command_of c.args.command.now) c.args.trail.now) (row_audit line_tester s t)
    (c.in_ok-reply.ensures.goes_on ∙ ap (λ (r : CodeRow (Listed Part)). rest_of line_tester (λ f. f.items) s r t) c.in-Audit.is) c.told-in-Audit.ensures c.audit.ensures

pub returns-in-Access : goal.returns-in-Access
returns-in-Access c =
    let s = c.args.register.now in
    let t = c.carry_out.new.tests in
    question_followed c.told-in-Access.result c.access.result c.access.new.trail (row line_tester s (command_of c.args.command.now) c.args.trail.now) (row_access line_tester s c.in-Access.from c.in-Access.to t)
    (c.in_ok-reply.ensures.goes_on ∙ ap (λ (r : CodeRow (Listed Part)). rest_of line_tester (λ f. f.items) s r t) c.in-Access.is) c.told-in-Access.ensures c.access.ensures

pub section-requires-clause-few : goal.section-requires-clause-few
section-requires-clause-few c = (subst (λ (r : CodeRow (Listed Part)). IsReadyRow (λ f. f.items) r) c.in-Section.is c.in_ok-reply.ensures.ready).0

pub section-requires-clause-height : goal.section-requires-clause-height
section-requires-clause-height c =
    let fits : FitsSigned w32 c.in-Section.z = search rules in
    subst IsHeight (sym (to_z-of_z w32 c.in-Section.z fits)) (subst (λ (r : CodeRow (Listed Part)). IsReadyRow (λ f. f.items) r) c.in-Section.is c.in_ok-reply.ensures.ready).1

pub returns-in-Section : goal.returns-in-Section
returns-in-Section c =
    let s = c.args.register.now in
    let t = c.carry_out.new.tests in
    let z = c.in-Section.z in
    let ps = c.in-Section.form.items in
    let fits : FitsSigned w32 z = search rules in
    subst (λ (o : Outcome Trail ModelReply). IsFollowed c.section.result t o)
    (sym (c.in_ok-reply.ensures.goes_on ∙ ap (λ (r : CodeRow (Listed Part)). rest_of line_tester (λ f. f.items) s r t) c.in-Section.is ∙ ap (λ y. row_section line_tester y ps t) (sym (to_z-of_z w32 z fits)))) c.section.ensures
