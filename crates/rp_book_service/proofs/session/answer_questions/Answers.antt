use Rattle.std.proofs.Common.{false, ap, sym, ◌∙◌, arith}
use Rattle.rp_language.specs.Grammar.{Version, reading}
use Rattle.rp_reports.specs.Report.{script_lines}
use Rattle.rp_book_service.specs.Added.{changes}
use Rattle.rp_book_service.proofs.AnswerLemmas.{Answers-end}
use Rattle.rp_book_service.proofs.SessionLemmas.{HasAsked-more, HasAsked-start, questions-end}
use Rattle.rp_book_service.proofs.session.answer_questions.Goals as goal

pub loop-line-init : goal.loop-line-init
loop-line-init g c =
    record {
      counts = omega arith;
      number = omega arith;
      later = c.requires.later;
      asked = HasAsked-start c.args.machine.now c.args.number (script_lines c.args.lines.now) (g.K.Sink.said c.args.sink.now);
    }

pub loop-line-preserved : goal.loop-line-preserved
loop-line-preserved g c =
    let same = λ (v : Version). changes (reading v c.in-Some.line.now) in
    record {
      counts = omega (arith, c.loop-line.invariant.counts, c.in_ok-refused.ensures.counts);
      number = omega (arith, c.loop-line.invariant.number, c.in-Some.ensures.shorter);
      later = c.in_ok-refused.ensures.later;
      asked =
          HasAsked-more c.args.machine.now c.loop-line.machine c.answer_line.new.machine c.args.number c.loop-line.next
          (script_lines c.args.lines.now) (script_lines c.loop-line.rest.now) c.in-Some.line.now (script_lines c.in-Some.behind.now)
          (g.K.Sink.said c.args.sink.now) (g.K.Sink.said c.loop-line.sink) (g.K.Sink.said c.answer_line.new.sink) c.loop-line.refused c.in_ok-refused.field-0
          c.loop-line.invariant.asked c.in-Some.ensures.next (ap same (sym c.requires.version) ∙ sym c.in_ok-line_changes.ensures ∙ c.if-branch.false)
          c.in_ok-refused.ensures.put c.in_ok-refused.ensures.mark c.in_ok-refused.ensures.state;
    }

pub returns-clause-questions : goal.returns-clause-questions
returns-clause-questions g c =
    questions-end c.args.machine.now c.loop-line.machine c.args.number c.loop-line.next c.args.lines.now c.loop-line.rest.now
    (g.K.Sink.said c.args.sink.now) (g.K.Sink.said c.loop-line.sink) c.loop-line.refused c.loop-line.invariant.asked c.in_default.ensures.end

pub returns-clause-answers : goal.returns-clause-answers
returns-clause-answers g c =
    Answers-end false c.args.machine.now c.loop-line.machine c.args.number c.loop-line.next c.args.lines.now c.loop-line.rest.now
    (g.K.Sink.said c.args.sink.now) (g.K.Sink.said c.loop-line.sink) c.loop-line.refused c.loop-line.invariant.asked.told c.in_default.ensures.end
