use Rattle.std.proofs.Common.{List, subst, arith}
use Rattle.std.proofs.lemmas.List.{length-map}
use Rattle.rp_seal.specs.declared.hash.NodeHash.{NodeHash}
use Rattle.rp_seal.specs.Hash.{bytes_of, hashes_of}
use Rattle.rp_seal_text.specs.Hashes.{AreHashes}
use Rattle.rp_seal_text.proofs.proof_files.act_proof_text.Goals as goal

pub returns-clause-valid : goal.returns-clause-valid
returns-clause-valid c = λ few. record {
  act = c.in_ok-write_act.ensures.valid;
  size = c.write_number.ensures.fits;
  few = omega (arith, few, length-map c.args.proof.now.proof.items bytes_of);
  hashes = subst (λ (v : List NodeHash). AreHashes (hashes_of v)) c.as_slice.ensures.value c.in_ok-write_proof.ensures.hashes;
}
