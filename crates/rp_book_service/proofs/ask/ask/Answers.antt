use Rattle.std.proofs.Common.{◌≡◌, [], ◌++◌, false, List, ℕ, length, IfErr, IfOk, IfSome, sym, subst, ◌∙◌, ap, arith}
use Rattle.rp_algebra.proofs.Lists.{nil_from_test}
use Rattle.rp_reports.specs.Report.{script_version}
use Rattle.rp_book_service.specs.Added.{PutsBehind, ended, has_change}
use Rattle.rp_book_service.specs.Cause.{HasAskCause}
use Rattle.rp_book_service.proofs.ask.ask.Goals as goal

pub returns-then-is_empty-clause-questions : goal.returns-then-is_empty-clause-questions
returns-then-is_empty-clause-questions g c =
    let none : c.args.script.now ≡ [] = nil_from_test c.args.script.now (sym c.is_empty.ensures ∙ c.if-is_empty.true) in
    let left = g.S.Source.left c.args.source.now in
    subst (λ (s : List ℕ). IfOk c.ask_first.result (λ _. IfSome left (λ lines. has_change (script_version (s ++ ended lines)) (ended lines) ≡ false))) (sym none) c.ask_first.ensures.questions

pub returns-then-is_empty-clause-answers : goal.returns-then-is_empty-clause-answers
returns-then-is_empty-clause-answers g c =
    let none : c.args.script.now ≡ [] = nil_from_test c.args.script.now (sym c.is_empty.ensures ∙ c.if-is_empty.true) in
    let left = g.S.Source.left c.args.source.now in
    let old = g.K.Sink.said c.args.sink.now in
    let new = g.K.Sink.said c.ask_first.new.sink in
    subst (λ (s : List ℕ). IfOk c.ask_first.result (λ refused. IfSome left (λ lines. PutsBehind s (ended lines) old new refused))) (sym none) c.ask_first.ensures.answers

pub returns-then-is_empty-clause-cause : goal.returns-then-is_empty-clause-cause
returns-then-is_empty-clause-cause g c =
    let none : c.args.script.now ≡ [] = nil_from_test c.args.script.now (sym c.is_empty.ensures ∙ c.if-is_empty.true) in
    let left = g.S.Source.left c.args.source.now in
    let reads = g.S.Source.faults c.args.source.now in
    let later = g.S.Source.faults c.ask_first.new.source in
    let k = g.K.Sink.faults c.args.sink.now in
    let n = g.K.Sink.faults c.ask_first.new.sink in
    subst (λ (s : List ℕ). IfErr c.ask_first.result (HasAskCause reads later k n s left)) (sym none) c.ask_first.ensures.cause

pub returns-then-is_empty-clause-before : goal.returns-then-is_empty-clause-before
returns-then-is_empty-clause-before g c = λ some.
    let none : c.args.script.now ≡ [] = nil_from_test c.args.script.now (sym c.is_empty.ensures ∙ c.if-is_empty.true) in
    absurd (omega (arith, some, ap length none))

pub returns-clause-questions : goal.returns-clause-questions
returns-clause-questions g c = c.ask_after.ensures.questions

pub returns-clause-answers : goal.returns-clause-answers
returns-clause-answers g c = c.ask_after.ensures.answers

pub returns-clause-cause : goal.returns-clause-cause
returns-clause-cause g c = c.ask_after.ensures.cause

pub returns-clause-before : goal.returns-clause-before
returns-clause-before g c = λ some. c.ask_after.ensures.before
