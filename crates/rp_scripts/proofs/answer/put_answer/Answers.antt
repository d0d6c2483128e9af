use Rattle.std.proofs.Common.{ℕ, eqb, List, [], ◌∷◌, ◌++◌, length, refl, sym, ap, ◌∙◌, subst, append_assoc}
use Rattle.std.proofs.lemmas.List.{append-nil}
use Rattle.rp_io.specs.Bytes.{Appends}
use Rattle.rp_answer.specs.declared.answer.Verdict.{Verdict}
use Rattle.rp_answer.specs.Views.{answer_of}
use Rattle.rp_cert.specs.Lines.{line_of}
use Rattle.rp_reports.specs.Text.{answer_lines, echo_text, line_end, proof_text, proof_texts, text_of_lines}
use Rattle.rp_text.specs.LineTexts.{lines_text}
use Rattle.rp_text.proofs.LineLemmas.{has_verdicts, verdicts_text, whole_text}
use Rattle.rp_scripts.proofs.AnswerLemmas.{no_text}
use Rattle.rp_scripts.proofs.SinkLemmas.{Appends-append, Appends-nothing, AppendsPrefix-within, OnErr-holds}
use Rattle.rp_scripts.proofs.answer.put_answer.Goals.{then-not-is_empty+in_ok-put_line+in_ok-put_proofs+in_ok-put_each, else-not-is_empty}
use Rattle.rp_scripts.proofs.answer.put_answer.Goals as goal

pub returns-in_err-put_line-clause-front : goal.returns-in_err-put_line-clause-front
returns-in_err-put_line-clause-front g c =
    let a = c.args.answer.now in
    let some = has_verdicts a c.items.result.now c.is_empty.result c.items.ensures c.is_empty.ensures c.if-not-is_empty.true in
    let echo = echo_text a.n c.items-then-not-is_empty.result.now ++ line_end ∷ [] in
    let proofs = text_of_lines (proof_texts c.args.brief (answer_of a).proofs) in
    let verdicts = verdicts_text a.verdicts.items in
    let whole = sym (append_assoc echo proofs verdicts) ∙ whole_text a c.args.brief c.items-then-not-is_empty.result.now proofs a.verdicts.items c.items-then-not-is_empty.ensures refl refl some in
    let old = g.K.Sink.said c.args.sink.now in
    OnErr-holds c.from_residual.result
    (AppendsPrefix-within old old (g.K.Sink.said c.put_line.new.sink) [] echo (proofs ++ verdicts) (text_of_lines (answer_lines c.args.brief (answer_of a))) (Appends-nothing old) c.in_err-put_line.ensures.front whole)

pub returns-in_err-put_proofs-clause-front : goal.returns-in_err-put_proofs-clause-front
returns-in_err-put_proofs-clause-front g c =
    let a = c.args.answer.now in
    let some = has_verdicts a c.items.result.now c.is_empty.result c.items.ensures c.is_empty.ensures c.if-not-is_empty.true in
    let echo = echo_text a.n c.items-then-not-is_empty.result.now ++ line_end ∷ [] in
    let proofs = lines_text (λ p. proof_text (line_of p)) c.told_proofs.result.now in
    let verdicts = verdicts_text a.verdicts.items in
    let whole = sym (append_assoc echo proofs verdicts) ∙ whole_text a c.args.brief c.items-then-not-is_empty.result.now proofs a.verdicts.items c.items-then-not-is_empty.ensures c.told_proofs.ensures refl some in
    OnErr-holds c.from_residual-in_err-put_proofs.result
    (AppendsPrefix-within (g.K.Sink.said c.args.sink.now) (g.K.Sink.said c.put_line.new.sink) (g.K.Sink.said c.put_proofs.new.sink) echo proofs verdicts (text_of_lines (answer_lines c.args.brief (answer_of a))) c.in_ok-put_line.ensures.put c.in_err-put_proofs.ensures.front whole)

pub returns-in_err-put_each-clause-front : goal.returns-in_err-put_each-clause-front
returns-in_err-put_each-clause-front g c =
    let a = c.args.answer.now in
    let some = has_verdicts a c.items.result.now c.is_empty.result c.items.ensures c.is_empty.ensures c.if-not-is_empty.true in
    let echo = echo_text a.n c.items-then-not-is_empty.result.now ++ line_end ∷ [] in
    let proofs = lines_text (λ p. proof_text (line_of p)) c.told_proofs.result.now in
    let verdicts = verdicts_text c.items-then-not-is_empty-2.result.now in
    let whole = ap (λ (xs : List ℕ). (echo ++ proofs) ++ xs) (append-nil verdicts) ∙ whole_text a c.args.brief c.items-then-not-is_empty.result.now proofs c.items-then-not-is_empty-2.result.now c.items-then-not-is_empty.ensures c.told_proofs.ensures c.items-then-not-is_empty-2.ensures some in
    let old = g.K.Sink.said c.args.sink.now in
    let middle = g.K.Sink.said c.put_proofs.new.sink in
    OnErr-holds c.from_residual-in_err-put_each.result
    (AppendsPrefix-within old middle (g.K.Sink.said c.put_each.new.sink) (echo ++ proofs) verdicts [] (text_of_lines (answer_lines c.args.brief (answer_of a)))
    (Appends-append old (g.K.Sink.said c.put_line.new.sink) middle echo proofs c.in_ok-put_line.ensures.put c.in_ok-put_proofs.ensures.put) c.in_err-put_each.ensures.front whole)

pub returns-clause-put : goal.returns-clause-put
returns-clause-put g c =
    let a = c.args.answer.now in
    let old = g.K.Sink.said c.args.sink.now in
    let all = text_of_lines (answer_lines c.args.brief (answer_of a)) in
    elim c.if-not-is_empty.branch [
      | then-not-is_empty+in_ok-put_line+in_ok-put_proofs+in_ok-put_each w ↦
          let some = has_verdicts a c.items.result.now c.is_empty.result c.items.ensures c.is_empty.ensures w.if-not-is_empty.true in
          let echo = echo_text a.n w.items-then-not-is_empty.result.now ++ line_end ∷ [] in
          let proofs = lines_text (λ p. proof_text (line_of p)) w.told_proofs.result.now in
          let verdicts = verdicts_text w.items-then-not-is_empty-2.result.now in
          let whole = whole_text a c.args.brief w.items-then-not-is_empty.result.now proofs w.items-then-not-is_empty-2.result.now w.items-then-not-is_empty.ensures w.told_proofs.ensures w.items-then-not-is_empty-2.ensures some in
          let middle = g.K.Sink.said w.put_proofs.new.sink in
          let new = g.K.Sink.said w.put_each.new.sink in
          subst (λ sink. Appends old (g.K.Sink.said sink) all) (sym w.sink-is)
          (subst (Appends old new) whole (Appends-append old middle new (echo ++ proofs) verdicts (Appends-append old (g.K.Sink.said w.put_line.new.sink) middle echo proofs w.in_ok-put_line.ensures.put w.in_ok-put_proofs.ensures.put) w.in_ok-put_each.ensures.put))
      | else-not-is_empty w ↦
          let none = no_text a c.args.brief (ap (λ (vs : List Verdict). eqb (length vs) 0) (sym c.items.ensures) ∙ sym c.is_empty.ensures ∙ w.if-not-is_empty.false) in
          subst (λ sink. Appends old (g.K.Sink.said sink) all) (sym w.sink-is) (subst (Appends old old) (sym none) (Appends-nothing old))
    ]
