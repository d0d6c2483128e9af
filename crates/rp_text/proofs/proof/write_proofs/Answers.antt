use Rattle.std.proofs.Common.{arith, [], ◌∷◌, ◌++◌, length, ◌<◌, ◌≤◌}
use Rattle.std.proofs.lemmas.Result.{err_from_is_err_and}
use Rattle.rp_reports.specs.Text.{line_end, proof_text}
use Rattle.rp_cert.specs.declared.proof.Proof.{Proof}
use Rattle.rp_cert.specs.Lines.{line_of}
use Rattle.rp_text.proofs.FrontLemmas.{front_within, more_written, all_written}
use Rattle.rp_text.proofs.proof.write_proofs.Goals as goal

pub returns-in_err-write_proof : goal.returns-in_err-write_proof
returns-in_err-write_proof c =
    let p = err_from_is_err_and c.from_residual.result c.from_residual.ensures.1 in
    let inside : c.loop-proof.proof-index < length c.args.proofs.now = omega arith in
    let text = λ (p : Proof). proof_text (line_of p) in
    rw (p.1)
    (front_within (λ x. text x ++ line_end ∷ []) c.args.out.now.items c.loop-proof.out.items c.write_proof.new.out.items c.args.proofs.now c.loop-proof.proof-index c.proof-item.result inside c.proof-item.is c.loop-proof.invariant c.in_err-write_proof.ensures)

pub loop-proof-preserved : goal.loop-proof-preserved
loop-proof-preserved c =
    let inside : c.loop-proof.proof-index < length c.args.proofs.now = omega arith in
    let text = λ (p : Proof). proof_text (line_of p) in
    more_written (λ x. text x ++ line_end ∷ []) c.args.out.now.items c.loop-proof.out.items c.write_proof.new.out.items c.args.proofs.now c.loop-proof.proof-index c.proof-item.result inside c.proof-item.is c.loop-proof.invariant c.in_ok-write_proof.ensures

pub returns : goal.returns
returns c =
    let text = λ (p : Proof). proof_text (line_of p) in
    let over : length c.args.proofs.now ≤ c.loop-proof.proof-index = omega arith in
    all_written (λ x. text x ++ line_end ∷ []) c.args.out.now.items c.loop-proof.out.items c.args.proofs.now c.loop-proof.proof-index over c.loop-proof.invariant
