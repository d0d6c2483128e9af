use Rattle.std.proofs.Common.{sym, ap, ◌∙◌, subst}
use Rattle.std.specs.Prelude.{IfOk}
use Rattle.rp_geometry.specs.parts.Parts.{IsPart}
use Rattle.rp_semantics.specs.Walk.{Work, first_tester}
use Rattle.rp_model.specs.commands.Row.{row}
use Rattle.rp_model.specs.states.State.{PlainState, changed}
use Rattle.rp_command.specs.Views.{command_of}
use Rattle.rp_correctness.proofs.Rows.{first_rows}
use Rattle.rp_register_state.specs.Rows.{Replies}
use Rattle.rp_register_state.specs.Taken.{IsTaken}
use Rattle.rp_register_state.proofs.States.{reply_is_taken}
use Rattle.rp_machine.specs.Replies.{made_by, made_by_row, proofs_of_row}
use Rattle.rp_machine.proofs.Told.{row_answered, row_changed}
use Rattle.rp_machine.proofs.state.State.answer.Goals as goal

pub follow-requires-clause-taken : goal.follow-requires-clause-taken
follow-requires-clause-taken g c =
    let s = c.args.self.now in
    let asked = command_of c.args.asked.now in
    let replies = subst (λ (t : PlainState). Replies (λ f. f) c.carry_out-row.result c.carry_out-row.new.work (row first_tester t asked c.over-work.result)) c.lend_room.ensures c.carry_out-row.ensures in
    subst (λ (t : PlainState). IfOk c.carry_out-row.result (λ reply. IsTaken IsPart c.args.n t (made_by reply))) (sym (c.keep_room.ensures ∙ c.lend_room.ensures))
    (reply_is_taken IsPart first_tester first_rows s c.keep_sound.ensures.sound c.args.n c.requires.later asked c.requires.kept c.over-work.result (λ f. f) c.carry_out-row.new.work c.carry_out-row.result replies)

pub returns-clause-answer : goal.returns-clause-answer
returns-clause-answer g c =
    let s = c.args.self.now in
    let asked = command_of c.args.asked.now in
    let replies = subst (λ (t : PlainState). Replies (λ f. f) c.carry_out-row.result c.carry_out-row.new.work (row first_tester t asked c.over-work.result)) c.lend_room.ensures c.carry_out-row.ensures in
    let made = subst (λ (w : Work). Replies (λ f. f) c.carry_out-row.result c.carry_out-row.new.work (row first_tester s asked w)) c.over-work.ensures replies in
    let proofs = c.row_proofs-proofs.ensures ∙ ap (λ (w : Work). proofs_of_row c.carry_out-row.result w.proofs) c.hand_on_room.ensures in
    (λ i. record { number = c.args.n; echo = c.in_ok-echo.ensures i; proofs = proofs i; verdicts = c.in_ok-verdicts.ensures.lines i })
    ∙ row_answered s c.args.n c.args.line.now asked c.carry_out-row.result c.carry_out-row.new.work c.in_ok-verdicts.ensures.there made

pub returns-clause-state : goal.returns-clause-state
returns-clause-state g c =
    let s = c.args.self.now in
    let asked = command_of c.args.asked.now in
    let replies = subst (λ (t : PlainState). Replies (λ f. f) c.carry_out-row.result c.carry_out-row.new.work (row first_tester t asked c.over-work.result)) c.lend_room.ensures c.carry_out-row.ensures in
    let made = subst (λ (w : Work). Replies (λ f. f) c.carry_out-row.result c.carry_out-row.new.work (row first_tester s asked w)) c.over-work.ensures replies in
    c.in_ok-verdicts.ensures.state ∙ ap (λ (t : PlainState). changed c.args.n t (made_by_row c.carry_out-row.result)) (c.keep_room.ensures ∙ c.lend_room.ensures)
    ∙ row_changed s c.args.n asked c.carry_out-row.result c.carry_out-row.new.work c.in_ok-verdicts.ensures.there made
