use Rattle.std.proofs.Common.{refl}
use Rattle.rp_seal.specs.Hash.{hashes_of}
use Rattle.rp_sealed_book.proofs.LogLemmas.{length-leaves}
use Rattle.rp_sealed_book.proofs.ProofLemmas.{continued}
use Rattle.rp_sealed_book.proofs.continuation.link_of.Goals as goal

pub returns : goal.returns
returns c = λ log is. record {
  from = refl;
  to = length-leaves c.args.leaves.now log is;
  leads = continued c.args.leaves.now log c.args.size (hashes_of c.in_ok-proof.proof.items) is c.in_ok-proof.ensures;
}
