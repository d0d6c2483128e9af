use Rattle.std.proofs.Common.{◌≡◌, Ok, ap, sym, ◌∙◌}
use Rattle.std.specs.declared.alloc.AllocError.{AllocError}
use Rattle.std.proofs.lemmas.Result.{IfOk-weaker}
use Rattle.rp_algebra.proofs.Results.{on_ok}
use Rattle.rp_language.specs.Grammar.{blank, bad, command, reading}
use Rattle.rp_language.proofs.ReadBounds.{read_expressions_are_kept_spec, read_heights_are_kept_spec, read_children_are_few}
use Rattle.rp_reports.specs.Report.{bad_answer}
use Rattle.rp_reports.specs.Machine.{answer_read, step_answer, Running}
use Rattle.rp_answer.specs.Views.{answer_of}
use Rattle.rp_command.specs.Views.{line_of, command_of, fault_of}
use Rattle.rp_machine.proofs.LaterLemmas.{next_later}
use Rattle.rp_machine.proofs.Told.{answer_as_read, after_as_read, after_where_ok}
use Rattle.rp_machine.proofs.machine.Machine.step.Goals as goal

pub answer-requires-clause-kept : goal.answer-requires-clause-kept
answer-requires-clause-kept g c κs within =
    read_expressions_are_kept_spec c.args.self.now.version c.args.line.now (command_of c.in-Cmd.asked) (ap (λ (m : Running). reading m.version c.args.line.now) (sym c.self.view_is) ∙ sym c.in_ok-read_line.ensures ∙ ap line_of c.in-Cmd.is)

pub answer-requires-clause-heights : goal.answer-requires-clause-heights
answer-requires-clause-heights g c κs within =
    read_heights_are_kept_spec c.args.self.now.version c.args.line.now (command_of c.in-Cmd.asked) (ap (λ (m : Running). reading m.version c.args.line.now) (sym c.self.view_is) ∙ sym c.in_ok-read_line.ensures ∙ ap line_of c.in-Cmd.is)

pub answer-requires-clause-few : goal.answer-requires-clause-few
answer-requires-clause-few g c κs within =
    read_children_are_few c.args.self.now.version c.args.line.now (command_of c.in-Cmd.asked) (ap (λ (m : Running). reading m.version c.args.line.now) (sym c.self.view_is) ∙ sym c.in_ok-read_line.ensures ∙ ap line_of c.in-Cmd.is)

pub returns-in-Blank-clause-answer : goal.returns-in-Blank-clause-answer
returns-in-Blank-clause-answer g c =
    let m = c.args.self.now in
    let line = c.args.line.now in
    c.blank.ensures ∙ answer_as_read m.version m.state c.args.n line blank (ap (λ (m : Running). reading m.version line) (sym c.self.view_is) ∙ sym c.in_ok-read_line.ensures ∙ ap line_of c.in-Blank.is)

pub returns-in-Blank-clause-state : goal.returns-in-Blank-clause-state
returns-in-Blank-clause-state g c =
    let line = c.args.line.now in
    after_as_read c.args.self.now c.args.n line blank (ap (λ (m : Running). reading m.version line) (sym c.self.view_is) ∙ sym c.in_ok-read_line.ensures ∙ ap line_of c.in-Blank.is)

pub returns-in-Blank-clause-later : goal.returns-in-Blank-clause-later
returns-in-Blank-clause-later g c =
    let m = c.args.self.now in
    let line = c.args.line.now in
    next_later {E = AllocError} (Ok c.blank.result) m m c.args.n line c.requires
    (after_as_read m c.args.n line blank (ap (λ (m : Running). reading m.version line) (sym c.self.view_is) ∙ sym c.in_ok-read_line.ensures ∙ ap line_of c.in-Blank.is))

pub returns-in-Cmd-clause-answer : goal.returns-in-Cmd-clause-answer
returns-in-Cmd-clause-answer g c =
    let m = c.args.self.now in
    let n = c.args.n in
    let line = c.args.line.now in
    let r = command (command_of c.in-Cmd.asked) in
    let read = ap (λ (m : Running). reading m.version line) (sym c.self.view_is) ∙ sym c.in_ok-read_line.ensures ∙ ap line_of c.in-Cmd.is in
    IfOk-weaker c.answer.result (λ a. answer_of a ≡ answer_read m.state n line r) (λ a. answer_of a ≡ step_answer m.version m.state n line) (λ a h. h ∙ answer_as_read m.version m.state n line r read) c.answer.ensures.answer

pub returns-in-Cmd-clause-state : goal.returns-in-Cmd-clause-state
returns-in-Cmd-clause-state g c =
    let line = c.args.line.now in
    let read = ap (λ (m : Running). reading m.version line) (sym c.self.view_is) ∙ sym c.in_ok-read_line.ensures ∙ ap line_of c.in-Cmd.is in
    after_where_ok c.answer.result c.args.self.now c.answer.new.self c.args.n line (command (command_of c.in-Cmd.asked)) read c.answer.ensures.state

pub returns-in-Cmd-clause-later : goal.returns-in-Cmd-clause-later
returns-in-Cmd-clause-later g c =
    let line = c.args.line.now in
    let read = ap (λ (m : Running). reading m.version line) (sym c.self.view_is) ∙ sym c.in_ok-read_line.ensures ∙ ap line_of c.in-Cmd.is in
    next_later c.answer.result c.args.self.now c.answer.new.self c.args.n line c.requires
    (after_where_ok c.answer.result c.args.self.now c.answer.new.self c.args.n line (command (command_of c.in-Cmd.asked)) read c.answer.ensures.state)

pub returns-in-Bad-clause-answer : goal.returns-in-Bad-clause-answer
returns-in-Bad-clause-answer g c =
    let m = c.args.self.now in
    let n = c.args.n in
    let line = c.args.line.now in
    let f = fault_of c.in-Bad.why in
    let read = ap (λ (m : Running). reading m.version line) (sym c.self.view_is) ∙ sym c.in_ok-read_line.ensures ∙ ap line_of c.in-Bad.is in
    IfOk-weaker c.bad_line.result (λ a. answer_of a ≡ bad_answer n line f) (λ a. answer_of a ≡ step_answer m.version m.state n line) (λ a h. h ∙ answer_as_read m.version m.state n line (bad f) read) c.bad_line.ensures

pub returns-in-Bad-clause-state : goal.returns-in-Bad-clause-state
returns-in-Bad-clause-state g c =
    let line = c.args.line.now in
    let read = ap (λ (m : Running). reading m.version line) (sym c.self.view_is) ∙ sym c.in_ok-read_line.ensures ∙ ap line_of c.in-Bad.is in
    on_ok c.bad_line.result (after_as_read c.args.self.now c.args.n line (bad (fault_of c.in-Bad.why)) read)

pub returns-in-Bad-clause-later : goal.returns-in-Bad-clause-later
returns-in-Bad-clause-later g c =
    let m = c.args.self.now in
    let line = c.args.line.now in
    let read = ap (λ (m : Running). reading m.version line) (sym c.self.view_is) ∙ sym c.in_ok-read_line.ensures ∙ ap line_of c.in-Bad.is in
    next_later c.bad_line.result m m c.args.n line c.requires (on_ok c.bad_line.result (after_as_read m c.args.n line (bad (fault_of c.in-Bad.why)) read))
