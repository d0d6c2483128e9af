use Rattle.std.proofs.Common.{◌≡◌, ◌<◌, length, [], ◌++◌, sym, ap, subst, ◌∙◌, arith}
use Rattle.std.proofs.lemmas.Bool.Decides.{nat_tests}
use Rattle.std.proofs.lemmas.List.{nil_from_length}
use Rattle.std.proofs.lemmas.Result.{IfErr-weaker}
use Rattle.rp_book_service.specs.Session.{HasAnswerCause, HasPieceCause, IsCut, Replies, missing_end}
use Rattle.rp_book_service.proofs.CauseLemmas.{piece_cause}
use Rattle.rp_book_service.proofs.SessionLemmas.{IsCut-line, Replies-start}
use Rattle.rp_book_service.proofs.session.Session.finish.Goals as goal

pub returns-then-is_empty-clause-replies : goal.returns-then-is_empty-clause-replies
returns-then-is_empty-clause-replies g c =
    let s = c.args.self.now in
    let said = g.K.Sink.said c.args.sink.now in
    let test = sym c.is_empty.ensures ∙ c.if-is_empty.true in
    let zero : length s.unfinished.items ≡ 0 = grind (arith, nat_tests, test, s.unfinished.ok.0) in
    let none : s.unfinished.items ≡ [] = nil_from_length s.unfinished.items zero in
    subst (λ piece. Replies piece s s said said) (ap missing_end (sym none)) (Replies-start s said c.requires.ready.unended)

pub returns-clause-cause : goal.returns-clause-cause
returns-clause-cause g c =
    let s = c.args.self.now in
    let held = s.unfinished.items in
    let k = g.K.Sink.faults c.args.sink.now in
    let n = g.K.Sink.faults c.answer_unfinished.new.sink in
    let old = g.K.Sink.said c.args.sink.now in
    let new = g.K.Sink.said c.answer_unfinished.new.sink in
    let test = sym c.is_empty.ensures ∙ c.if-is_empty.false in
    let some : 0 < length held = grind (arith, nat_tests, test, s.unfinished.ok.0) in
    let lines = c.extend_from_slice.new.self.items in
    let cut : IsCut (held ++ missing_end held) lines [] = subst (λ ls. IsCut (held ++ missing_end held) ls []) (sym c.in_ok-extend_from_slice.ensures.items) (IsCut-line held some) in
    IfErr-weaker c.answer_unfinished.result (HasAnswerCause k n s.machine s.next lines old new) (HasPieceCause k n s (held ++ missing_end held) old new)
    (λ stop h. piece_cause k n s (held ++ missing_end held) lines [] old new stop cut h) c.answer_unfinished.ensures.cause
