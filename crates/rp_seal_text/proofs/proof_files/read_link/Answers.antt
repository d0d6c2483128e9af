use Rattle.rp_seal_text.specs.Hashes.{hashes_text}
use Rattle.rp_seal_text.proofs.proof_files.read_link.Goals as goal

pub returns-in_default-clause-each : goal.returns-in_default-clause-each
returns-in_default-clause-each c = λ f valid is.
    c.in_default.ensures.each f.from f.to (hashes_text f.proof) valid.from valid.to is

pub returns-in_default-2-clause-each : goal.returns-in_default-2-clause-each
returns-in_default-2-clause-each c = λ f valid is.
    let head = c.in-Some.ensures.each f.from f.to (hashes_text f.proof) valid.from valid.to is in
    let found = c.in_ok-proof.ensures.each f.proof valid.few valid.hashes head.2 in
    rw c.in_default-2.is at found

pub returns-clause-each : goal.returns-clause-each
returns-clause-each c = λ f valid is.
    let head = c.in-Some.ensures.each f.from f.to (hashes_text f.proof) valid.from valid.to is in
    let found = c.in_ok-proof.ensures.each f.proof valid.few valid.hashes head.2 in
    let proof = rw c.in-Some-2.is at found in
    λ i. record { from = head.0 i; to = head.1 i; proof = proof i }
