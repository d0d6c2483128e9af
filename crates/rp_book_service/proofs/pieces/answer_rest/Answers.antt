use Rattle.std.proofs.Common.{◌≡◌, ℕ, List, ◌++◌, false, IfErr, IfOk, IfSome, ap, subst, arith, length}
use Rattle.std.proofs.lemmas.Result.{err_from_is_err_and}
use Rattle.rp_reports.specs.Report.{script_version}
use Rattle.rp_book_service.specs.Added.{PutsBehind, ended, has_change}
use Rattle.rp_book_service.specs.Cause.{HasAskCause}
use Rattle.rp_book_service.specs.Session.{IfChange, PutsBeforeChange, with_front}
use Rattle.rp_book_service.proofs.CauseLemmas.{open_before, open_cause}
use Rattle.rp_book_service.proofs.pieces.answer_rest.Goals as goal

pub answer_pieces-requires-clause-short : goal.answer_pieces-requires-clause-short
answer_pieces-requires-clause-short g c = omega (arith, c.requires.short, ap length c.in_ok-session.ensures.unfinished)

pub returns-in_err-session-clause-cause : goal.returns-in_err-session-clause-cause
returns-in_err-session-clause-cause g c =
    let p = err_from_is_err_and c.from_residual.result c.from_residual.ensures.1 in
    rw (p.1, p.2)
    (open_cause (g.S.Source.faults c.args.source.now) (g.K.Sink.faults c.args.sink.now) c.args.script.now (with_front c.args.unfinished.items (g.S.Source.left c.args.source.now))
    c.in_err-session.field-0.0 c.in_err-session.ensures.cause)

pub returns-in_err-session-clause-before : goal.returns-in_err-session-clause-before
returns-in_err-session-clause-before g c =
    let p = err_from_is_err_and c.from_residual.result c.from_residual.ensures.1 in
    rw (p.1, p.2) (open_before _ c.in_err-session.field-0.0)

pub returns-clause-questions : goal.returns-clause-questions
returns-clause-questions g c =
    let script = c.args.script.now in
    let left = g.S.Source.left c.args.source.now in
    subst (λ (u : List ℕ). IfOk c.answer_pieces.result (λ _. IfSome (with_front u left) (λ lines. has_change (script_version (script ++ ended lines)) (ended lines) ≡ false)))
    c.in_ok-session.ensures.unfinished c.answer_pieces.ensures.questions

pub returns-clause-answers : goal.returns-clause-answers
returns-clause-answers g c =
    let script = c.args.script.now in
    let left = g.S.Source.left c.args.source.now in
    let old = g.K.Sink.said c.args.sink.now in
    let new = g.K.Sink.said c.answer_pieces.new.sink in
    subst (λ (u : List ℕ). IfOk c.answer_pieces.result (λ refused. IfSome (with_front u left) (λ lines. PutsBehind script (ended lines) old new refused)))
    c.in_ok-session.ensures.unfinished c.answer_pieces.ensures.answers

pub returns-clause-cause : goal.returns-clause-cause
returns-clause-cause g c =
    let script = c.args.script.now in
    let left = g.S.Source.left c.args.source.now in
    let reads = g.S.Source.faults c.args.source.now in
    let later = g.S.Source.faults c.answer_pieces.new.source in
    let k = g.K.Sink.faults c.args.sink.now in
    let n = g.K.Sink.faults c.answer_pieces.new.sink in
    subst (λ (u : List ℕ). IfErr c.answer_pieces.result (HasAskCause reads later k n script (with_front u left))) c.in_ok-session.ensures.unfinished c.answer_pieces.ensures.cause

pub returns-clause-before : goal.returns-clause-before
returns-clause-before g c =
    let script = c.args.script.now in
    let left = g.S.Source.left c.args.source.now in
    let old = g.K.Sink.said c.args.sink.now in
    let new = g.K.Sink.said c.answer_pieces.new.sink in
    subst (λ (u : List ℕ). IfErr c.answer_pieces.result (λ stop. IfChange stop (IfSome (with_front u left) (λ lines. PutsBeforeChange script (ended lines) old new))))
    c.in_ok-session.ensures.unfinished c.answer_pieces.ensures.before
