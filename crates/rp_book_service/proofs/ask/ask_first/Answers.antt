use Rattle.std.proofs.Common.{◌++◌, [], subst}
use Rattle.std.proofs.lemmas.Result.{IfErr-weaker}
use Rattle.rp_book_service.specs.declared.first.First.TheVariants.{Lines}
use Rattle.rp_book_service.specs.Cause.{HasAskCause}
use Rattle.rp_book_service.specs.Session.{IsFirst, with_front}
use Rattle.rp_book_service.proofs.CauseLemmas.{later_cause}
use Rattle.rp_book_service.proofs.ask.ask_first.Goals as goal

pub returns-in-Lines-clause-cause : goal.returns-in-Lines-clause-cause
returns-in-Lines-clause-cause g c =
    let before = g.S.Source.left c.args.source.now in
    let after = g.S.Source.left c.read_first.new.source in
    let reads = g.S.Source.faults c.args.source.now in
    let middle = g.S.Source.faults c.read_first.new.source in
    let later = g.S.Source.faults c.answer_after.new.source in
    let k = g.K.Sink.faults c.args.sink.now in
    let n = g.K.Sink.faults c.answer_after.new.sink in
    let lines = c.in-Lines.lines.items in
    let rest = c.in-Lines.rest.items in
    let first : IsFirst before after (Lines c.in-Lines.lines c.in-Lines.rest) = subst (IsFirst before after) c.in-Lines.is c.in_ok-bytes.ensures.first in
    IfErr-weaker c.answer_after.result (HasAskCause middle later k n [] (with_front (c.deref-in-Lines.result.now ++ rest) after)) (HasAskCause reads later k n [] before)
    (λ stop h.
    later_cause reads middle later k n (lines ++ rest) before after stop c.in_ok-bytes.ensures.counts first.2
    (subst (λ xs. HasAskCause middle later k n [] (with_front (xs ++ rest) after) stop) c.deref-in-Lines.ensures.value h))
    c.answer_after.ensures.cause
