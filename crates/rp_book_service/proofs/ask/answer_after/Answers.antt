use Rattle.std.proofs.Common.{◌≡◌, ℕ, List, Option, ◌++◌, [], false, IfSome, arith}
use Rattle.std.proofs.lemmas.Result.{IfErr-weaker, IfOk-weaker, err_from_is_err_and}
use Rattle.rp_reports.specs.Report.{script_version}
use Rattle.rp_book_service.specs.Added.{PutsBehind, ended, has_change}
use Rattle.rp_book_service.specs.Cause.{HasAskCause}
use Rattle.rp_book_service.specs.Session.{with_front}
use Rattle.rp_book_service.proofs.CauseLemmas.{after_cause, first_cause}
use Rattle.rp_book_service.proofs.SessionLemmas.{first_answers, first_questions}
use Rattle.rp_book_service.proofs.ask.answer_after.Goals as goal

pub returns-in_err-answer_first-clause-cause : goal.returns-in_err-answer_first-clause-cause
returns-in_err-answer_first-clause-cause g c =
    let p = err_from_is_err_and c.from_residual.result c.from_residual.ensures.1 in
    rw (p.1, p.2)
    (first_cause (g.S.Source.faults c.args.source.now) (g.K.Sink.faults c.args.sink.now) (g.K.Sink.faults c.answer_first.new.sink) c.args.lines.now c.args.rest.items
    (g.S.Source.left c.args.source.now) c.in_err-answer_first.field-0.0 c.requires.end (omega (arith, c.requires.short)) c.in_err-answer_first.ensures.cause)

pub returns-clause-questions : goal.returns-clause-questions
returns-clause-questions g c =
    let lines = c.args.lines.now in
    let rest = c.args.rest.items in
    let left = g.S.Source.left c.args.source.now in
    let P : Option (List ℕ) → Type 0 = λ o. IfSome o (λ all. has_change (script_version (lines ++ ended all)) (ended all) ≡ false) in
    let Q : Type 0 = IfSome (with_front (lines ++ rest) left) (λ all. has_change (script_version (ended all)) (ended all) ≡ false) in
    IfOk-weaker c.answer_rest.result (λ _. P (with_front rest left)) (λ _. Q) (λ _ h. first_questions lines rest left c.requires.end c.in_ok-answer_first.ensures.questions h)
    c.answer_rest.ensures.questions

pub returns-clause-answers : goal.returns-clause-answers
returns-clause-answers g c =
    let lines = c.args.lines.now in
    let rest = c.args.rest.items in
    let left = g.S.Source.left c.args.source.now in
    let old = g.K.Sink.said c.args.sink.now in
    let middle = g.K.Sink.said c.answer_first.new.sink in
    let new = g.K.Sink.said c.answer_rest.new.sink in
    IfOk-weaker c.answer_rest.result (λ l. IfSome (with_front rest left) (λ all. PutsBehind lines (ended all) middle new l))
    (λ l. IfSome (with_front (lines ++ rest) left) (λ all. PutsBehind [] (ended all) old new l))
    (λ l h. first_answers lines rest left old middle new c.in_ok-answer_first.field-0 l c.requires.end c.in_ok-answer_first.ensures.answers h)
    c.answer_rest.ensures.answers

pub returns-clause-cause : goal.returns-clause-cause
returns-clause-cause g c =
    let lines = c.args.lines.now in
    let rest = c.args.rest.items in
    let left = g.S.Source.left c.args.source.now in
    let reads = g.S.Source.faults c.args.source.now in
    let later = g.S.Source.faults c.answer_rest.new.source in
    let k = g.K.Sink.faults c.args.sink.now in
    let m = g.K.Sink.faults c.answer_first.new.sink in
    let n = g.K.Sink.faults c.answer_rest.new.sink in
    IfErr-weaker c.answer_rest.result (HasAskCause reads later m n lines (with_front rest left)) (HasAskCause reads later k n [] (with_front (lines ++ rest) left))
    (λ stop h. after_cause reads later k m n lines rest left stop c.requires.end c.in_ok-answer_first.ensures.counts h) c.answer_rest.ensures.cause
