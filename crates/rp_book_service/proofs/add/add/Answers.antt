use Rattle.std.proofs.Common.{List, ℕ, IfSome, subst}
use Rattle.rp_book.specs.Act.{GainsAct, added_act}
use Rattle.rp_book.specs.Kept.{Stays}
use Rattle.rp_book_service.specs.Added.{MatchOutcome}
use Rattle.rp_book_service.specs.Layers.{IsAdded, IsAddition}
use Rattle.rp_book_service.proofs.LayerLemmas.{HasAddition-read}
use Rattle.rp_book_service.proofs.OutcomeLemmas.{acts-read}
use Rattle.rp_book_service.proofs.add.add.Goals as goal

pub returns-clause-addition : goal.returns-clause-addition
returns-clause-addition g c =
    let addition = c.in_ok-addition.addition in
    HasAddition-read (g.B.Book.script c.args.book.now) (g.S.Source.left c.args.source.now) c.args.layer c.text-script.result.now c.in_ok-lines.lines.items addition c.in_ok-done.done c.text-script.ensures.bytes c.in_ok-lines.ensures.lines
    (subst (λ (ls : List ℕ). IsAddition c.text-script.result.now ls addition) c.deref-2.ensures.value c.in_ok-addition.ensures)
    (subst (λ (ls : List ℕ). IsAdded ls addition c.in_ok-done.done) c.deref-3.ensures.value c.in_ok-done.ensures.addition)

pub returns-clause-acts : goal.returns-clause-acts
returns-clause-acts g c =
    let told = g.B.Book.script c.args.book.now in
    let old = g.B.Book.acts c.args.book.now in
    let new = g.B.Book.acts c.keep.new.book in
    acts-read told (g.S.Source.left c.args.source.now) old new c.args.layer c.in_ok-lines.lines.items c.args.entry c.in_ok-done.done c.in_ok-lines.ensures.lines
    (subst (λ (ls : List ℕ). MatchOutcome c.in_ok-done.done (IfSome told (λ script. GainsAct old new (added_act script ls c.args.entry))) (Stays old new)) c.deref-3.ensures.value c.in_ok-done.ensures.acts)
