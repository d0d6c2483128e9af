use Rattle.std.proofs.Common.{OnErr, subst}
use Rattle.rp_algebra.proofs.Results.{on_ok}
use Rattle.rp_io.specs.Bytes.{AppendsPrefix}
use Rattle.rp_reports.specs.Machine.{step_answer}
use Rattle.rp_reports.specs.Text.{Answer, answer_lines, text_of_lines}
use Rattle.rp_answer.specs.Views.{answer_of}
use Rattle.rp_scripts.proofs.RunLemmas.{PutsAnswer-told}
use Rattle.rp_scripts.proofs.SinkLemmas.{AppendsPrefix-nothing, OnErr-holds}
use Rattle.rp_runner.proofs.run.run_line.Goals as goal

pub returns-clause-answer : goal.returns-clause-answer
returns-clause-answer g c =
    PutsAnswer-told c.put_answer.result c.args.brief c.args.machine.now c.args.number c.args.line.now (g.K.Sink.said c.args.sink.now) (g.K.Sink.said c.put_answer.new.sink)
    (answer_of c.in_ok-answer.answer) c.in_ok-answer.ensures.answer c.put_answer.ensures.put c.put_answer.ensures.refused

pub returns-clause-front : goal.returns-clause-front
returns-clause-front g c =
    subst (λ (a : Answer). OnErr c.put_answer.result (AppendsPrefix (g.K.Sink.said c.args.sink.now) (g.K.Sink.said c.put_answer.new.sink) (text_of_lines (answer_lines c.args.brief a))))
    c.in_ok-answer.ensures.answer c.put_answer.ensures.front

pub returns-clause-state : goal.returns-clause-state
returns-clause-state g c = on_ok c.put_answer.result c.in_ok-answer.ensures.state

pub returns-clause-later : goal.returns-clause-later
returns-clause-later g c = on_ok c.put_answer.result c.in_ok-answer.ensures.later

pub returns-in_err-answer-clause-front : goal.returns-in_err-answer-clause-front
returns-in_err-answer-clause-front g c =
    OnErr-holds c.from_residual.result
    (AppendsPrefix-nothing (g.K.Sink.said c.args.sink.now) (text_of_lines (answer_lines c.args.brief (step_answer c.args.machine.now.version c.args.machine.now.state c.args.number c.args.line.now))))
