use Rattle.std.proofs.Common.{◌≡◌, [], ◌++◌, List, ℕ, refl, sym, ap, subst, ◌∙◌}
use Rattle.std.proofs.lemmas.Result.{err_from_is_err_and}
use Rattle.rp_algebra.proofs.Lists.{nil_from_test, nonempty_from_test}
use Rattle.rp_book_service.specs.Session.{IsCut}
use Rattle.rp_book_service.proofs.CauseLemmas.{piece_cause}
use Rattle.rp_book_service.proofs.SessionLemmas.{AnswersLines-nothing, IsCut-behind, IsCut-none}
use Rattle.rp_book_service.proofs.session.Session.answer_piece.Goals as goal

pub returns-then-is_empty-clause-replies : goal.returns-then-is_empty-clause-replies
returns-then-is_empty-clause-replies g c =
    let held = c.args.self.now.unfinished.items in
    let piece = c.args.piece.now in
    let lines = c.cut_lines.result.0.now in
    let none : lines ≡ [] = nil_from_test lines (sym c.is_empty.ensures ∙ c.if-is_empty.true) in
    record {
      lines = [];
      cut =
          subst (IsCut (held ++ piece) []) (sym c.in_ok-extend_from_slice.ensures.items)
          (IsCut-none held piece lines c.cut_lines.result.1.now c.requires.ready.unended none c.cut_lines.ensures);
      answers = AnswersLines-nothing c.args.self.now _ (g.K.Sink.said c.args.sink.now) refl refl refl;
    }

pub returns-in_err-answer_unfinished-clause-cause : goal.returns-in_err-answer_unfinished-clause-cause
returns-in_err-answer_unfinished-clause-cause g c =
    let p = err_from_is_err_and c.from_residual-in_err-answer_unfinished.result c.from_residual-in_err-answer_unfinished.ensures.1 in
    let held = c.args.self.now.unfinished.items in
    let piece = c.args.piece.now in
    let lines = c.cut_lines.result.0.now in
    let rest = c.cut_lines.result.1.now in
    let some = nonempty_from_test lines (sym c.is_empty.ensures ∙ c.if-is_empty.false) in
    let cut = subst (λ ls. IsCut (held ++ piece) ls rest) (sym c.in_ok-extend_from_slice-2.ensures.items) (IsCut-behind held piece lines rest some c.cut_lines.ensures) in
    rw (p.1, p.2)
    (piece_cause (g.K.Sink.faults c.args.sink.now) (g.K.Sink.faults c.answer_unfinished.new.sink) c.args.self.now (held ++ piece)
    c.extend_from_slice-2.new.self.items rest (g.K.Sink.said c.args.sink.now) (g.K.Sink.said c.answer_unfinished.new.sink) c.in_err-answer_unfinished.field-0.0 cut c.in_err-answer_unfinished.ensures.cause)

pub returns-clause-replies : goal.returns-clause-replies
returns-clause-replies g c =
    let held = c.args.self.now.unfinished.items in
    let piece = c.args.piece.now in
    let lines = c.cut_lines.result.0.now in
    let rest = c.cut_lines.result.1.now in
    let some = nonempty_from_test lines (sym c.is_empty.ensures ∙ c.if-is_empty.false) in
    let kept : c.extend_from_slice-3.new.self.items ≡ rest = c.in_ok-extend_from_slice-3.ensures.items ∙ ap (λ (xs : List ℕ). xs ++ rest) c.in_ok-answer_unfinished.ensures.none in
    let a = c.in_ok-answer_unfinished.ensures.answers in
    record {
      lines = c.extend_from_slice-2.new.self.items;
      cut =
          subst (λ (ls : List ℕ). IsCut (held ++ piece) ls c.extend_from_slice-3.new.self.items) (sym c.in_ok-extend_from_slice-2.ensures.items)
          (subst (IsCut (held ++ piece) (held ++ lines)) (sym kept) (IsCut-behind held piece lines rest some c.cut_lines.ensures));
      answers = record { mark = a.mark; questions = a.questions; answers = a.answers; marks = a.marks };
    }
