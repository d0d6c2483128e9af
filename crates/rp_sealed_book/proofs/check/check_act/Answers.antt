use Rattle.std.proofs.Common.{◌≡◌, ◌+◌, ap, ◌∙◌, arith, rules}
use Rattle.rp_seal.specs.Hash.{hashes_of}
use Rattle.rp_seal_text.specs.Checkpoint.{fields_of}
use Rattle.rp_seal_text.specs.ProofFiles.{act_proof_fields}
use Rattle.rp_sealed_book.proofs.ProofLemmas.{has-act, leads-to}
use Rattle.rp_sealed_book.proofs.check.check_act.Goals as goal

pub returns-clause-exact : goal.returns-clause-exact
returns-clause-exact c =
    let number : c.args.proof.now.act.number ≡ c.in-Some.place + 1 = search rules in
    let from = c.from.ensures in
    leads-to (act_proof_fields c.args.proof.now) (fields_of c.args.seal.now) c.from.result c.deref.result.now (hashes_of c.deref-2.result.now) c.check_inclusion.result
    (omega (arith, number, from)) (omega (arith, number)) c.if-proof-seal.false (c.deref.ensures.value ∙ c.in_ok-bytes.ensures.bytes) (ap hashes_of c.deref-2.ensures.value) c.check_inclusion.ensures.exact

pub returns-clause-sound : goal.returns-clause-sound
returns-clause-sound c = λ yes.
    let number : c.args.proof.now.act.number ≡ c.in-Some.place + 1 = search rules in
    let from = c.from.ensures in
    has-act (act_proof_fields c.args.proof.now) (fields_of c.args.seal.now) c.from.result c.deref.result.now (hashes_of c.deref-2.result.now) c.in_ok-bytes.ensures.room
    (omega (arith, number, from)) (omega (arith, number)) (c.deref.ensures.value ∙ c.in_ok-bytes.ensures.bytes) (ap hashes_of c.deref-2.ensures.value) (c.check_inclusion.ensures.sound yes)
