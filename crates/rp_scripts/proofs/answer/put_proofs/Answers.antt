use Rattle.std.proofs.Common.{[], ◌∷◌, ◌++◌, ◌+◌, drop, sym, ap, ◌∙◌, subst, arith}
use Rattle.rp_algebra.proofs.Lists.{drop_item}
use Rattle.rp_cert.specs.declared.proof.Proof.{Proof}
use Rattle.rp_cert.specs.Lines.{line_of}
use Rattle.rp_reports.specs.Text.{line_end, proof_text}
use Rattle.rp_io.specs.Bytes.{Appends}
use Rattle.rp_text.specs.LineTexts.{lines_text}
use Rattle.rp_scripts.proofs.AnswerLemmas.{no_proofs}
use Rattle.rp_scripts.proofs.SinkLemmas.{Appends-nothing, HasPut-front, HasPut-more, OnErr-holds}
use Rattle.rp_scripts.proofs.answer.put_proofs.Goals as goal

pub returns-in_err-put_proof-clause-front : goal.returns-in_err-put_proof-clause-front
returns-in_err-put_proof-clause-front g c =
    let text = λ (p : Proof). proof_text (line_of p) in
    let lines = c.args.proofs.now in
    let i = c.loop-proof.proof-index in
    let line = c.proof-item.result in
    OnErr-holds c.from_residual.result
    (HasPut-front (g.K.Sink.said c.args.sink.now) (g.K.Sink.said c.loop-proof.sink) (g.K.Sink.said c.put_proof.new.sink) (lines_text text lines) (lines_text text (drop i lines)) (text line ++ line_end ∷ []) (lines_text text (drop (i + 1) lines))
    c.loop-proof.invariant.1 (ap (lines_text text) (sym (drop_item lines i line c.loop-proof-test.true c.proof-item.is))) c.in_err-put_proof.ensures.front)

pub loop-proof-preserved : goal.loop-proof-preserved
loop-proof-preserved g c =
    let text = λ (p : Proof). proof_text (line_of p) in
    let lines = c.args.proofs.now in
    let i = c.loop-proof.proof-index in
    let line = c.proof-item.result in (
      omega (arith, c.loop-proof.invariant.0, c.in_ok-put_proof.ensures.counts),
      HasPut-more (g.K.Sink.said c.args.sink.now) (g.K.Sink.said c.loop-proof.sink) (g.K.Sink.said c.put_proof.new.sink) (lines_text text lines) (lines_text text (drop i lines)) (text line ++ line_end ∷ []) (lines_text text (drop (i + 1) lines))
          c.loop-proof.invariant.1 (ap (lines_text text) (sym (drop_item lines i line c.loop-proof-test.true c.proof-item.is))) c.in_ok-put_proof.ensures.put,
    )

pub returns-then-is_empty-clause-put : goal.returns-then-is_empty-clause-put
returns-then-is_empty-clause-put g c =
    let said = g.K.Sink.said c.args.sink.now in
    subst (Appends said said) (sym (no_proofs c.args.proofs.now (sym c.is_empty.ensures ∙ c.if-is_empty.true))) (Appends-nothing said)
