use Rattle.std.proofs.Common.{None}
use Rattle.std.proofs.lemmas.Result.{err_from_is_err_and}
use Rattle.rp_book_service.proofs.AnswerLemmas.{AnswersBehind-both}
use Rattle.rp_book_service.proofs.CauseLemmas.{quiet_cause}
use Rattle.rp_book_service.proofs.answers.answer_both.Goals as goal

pub returns-in_err-number-clause-cause : goal.returns-in_err-number-clause-cause
returns-in_err-number-clause-cause g c =
    let p = err_from_is_err_and c.from_residual.result c.from_residual.ensures.1 in
    let k = g.K.Sink.faults c.args.sink.now in
    rw (p.1, p.2) (quiet_cause k k c.in_err-number.field-0.0 c.in_err-number.ensures.cause)

pub returns-clause-answers : goal.returns-clause-answers
returns-clause-answers g c =
    AnswersBehind-both c.args.machine.now c.run_body.new.machine c.answer_lines.new.machine c.in_ok-number.number c.in_ok-refused.field-0-0
    c.args.body.now c.args.lines.now None None (g.K.Sink.said c.args.sink.now) (g.K.Sink.said c.answer_lines.new.sink)
    c.in_ok-number.before c.in_ok-refused.refused c.requires.opened c.in_ok-number.ensures.answers c.in_ok-refused.ensures.answers
