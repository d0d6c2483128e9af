use Rattle.std.proofs.Common.{arith}
use Rattle.std.proofs.lemmas.Result.{err_from_is_err_and}
use Rattle.rp_reports.specs.Report.{script_lines}
use Rattle.rp_runner.proofs.Causes.{earlier_cause}
use Rattle.rp_book_service.proofs.AnswerLemmas.{HasAnswered-start, HasAnswered-more, Answers-end}
use Rattle.rp_book_service.proofs.answers.answer_lines.Goals as goal

pub loop-line-init : goal.loop-line-init
loop-line-init g c =
    record {
      counts = omega arith;
      number = omega arith;
      later = c.requires.later;
      told = HasAnswered-start c.args.brief c.args.machine.now c.args.number (script_lines c.args.lines.now) (g.K.Sink.said c.args.sink.now);
    }

pub loop-line-preserved : goal.loop-line-preserved
loop-line-preserved g c =
    record {
      counts = omega (arith, c.loop-line.invariant.counts, c.in_ok-refused.ensures.counts);
      number = omega (arith, c.loop-line.invariant.number, c.in-Some.ensures.shorter);
      later = c.in_ok-refused.ensures.later;
      told =
          HasAnswered-more c.args.brief c.args.machine.now c.loop-line.machine c.answer_line.new.machine c.args.number c.loop-line.next
          (script_lines c.args.lines.now) (script_lines c.loop-line.rest.now) c.in-Some.line.now (script_lines c.in-Some.behind.now)
          (g.K.Sink.said c.args.sink.now) (g.K.Sink.said c.loop-line.sink) (g.K.Sink.said c.answer_line.new.sink) c.loop-line.refused c.in_ok-refused.field-0
          c.loop-line.invariant.told c.in-Some.ensures.next c.in_ok-refused.ensures.put c.in_ok-refused.ensures.mark c.in_ok-refused.ensures.state;
    }

pub returns-clause-answers : goal.returns-clause-answers
returns-clause-answers g c =
    Answers-end c.args.brief c.args.machine.now c.loop-line.machine c.args.number c.loop-line.next c.args.lines.now c.loop-line.rest.now
    (g.K.Sink.said c.args.sink.now) (g.K.Sink.said c.loop-line.sink) c.loop-line.refused c.loop-line.invariant.told c.in_default.ensures.end

pub returns-in_err-refused-clause-cause : goal.returns-in_err-refused-clause-cause
returns-in_err-refused-clause-cause g c =
    let p = err_from_is_err_and c.from_residual.result c.from_residual.ensures.1 in
    rw (p.1, p.2)
    (earlier_cause (g.K.Sink.faults c.args.sink.now) (g.K.Sink.faults c.loop-line.sink) (g.K.Sink.faults c.answer_line.new.sink) c.in_err-refused.field-0.0
    c.loop-line.invariant.counts c.in_err-refused.ensures.cause)
