use Rattle.std.proofs.Common.{◌≡◌, ℕ, List, [], ◌∷◌, ◌++◌, ap, ◌∙◌, subst}
use Rattle.rp_io.specs.Bytes.{Appends, AppendsPrefix}
use Rattle.rp_cert.specs.Lines.{line_of}
use Rattle.rp_reports.specs.Text.{line_end, proof_text}
use Rattle.rp_scripts.proofs.SinkLemmas.{AppendsPrefix-nothing, OnErr-holds}
use Rattle.rp_scripts.proofs.answer.put_proof.Goals as goal

pub returns-clause-put : goal.returns-clause-put
returns-clause-put g c =
    let line = proof_text (line_of c.args.proof.now) ++ line_end ∷ [] in
    let text : c.deref.result.now ≡ line = c.deref.ensures.value ∙ c.in_ok-write_proof.ensures ∙ ap (λ (xs : List ℕ). xs ++ line) c.clear.ensures.items in
    subst (Appends (g.K.Sink.said c.args.sink.now) (g.K.Sink.said c.put.new.self)) text c.in_ok-put.ensures.ok

pub returns-in_err-write_proof-clause-front : goal.returns-in_err-write_proof-clause-front
returns-in_err-write_proof-clause-front g c =
    OnErr-holds c.from_residual.result (AppendsPrefix-nothing (g.K.Sink.said c.args.sink.now) (proof_text (line_of c.args.proof.now) ++ line_end ∷ []))

pub returns-in_err-put-clause-front : goal.returns-in_err-put-clause-front
returns-in_err-put-clause-front g c =
    let line = proof_text (line_of c.args.proof.now) ++ line_end ∷ [] in
    let text : c.deref.result.now ≡ line = c.deref.ensures.value ∙ c.in_ok-write_proof.ensures ∙ ap (λ (xs : List ℕ). xs ++ line) c.clear.ensures.items in
    OnErr-holds c.from_residual-in_err-put.result (subst (AppendsPrefix (g.K.Sink.said c.args.sink.now) (g.K.Sink.said c.put.new.self)) text c.in_err-put.ensures.err)
