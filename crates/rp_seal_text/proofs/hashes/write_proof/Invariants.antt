use Rattle.std.proofs.Common.{◌≡◌, ◌++◌, take}
use Rattle.rp_seal.specs.Hash.{hashes_of}
use Rattle.rp_seal_text.specs.Hashes.{AreHashes, hash_lines}
use Rattle.rp_seal_text.proofs.hashes.write_proof.Given as goal

abbrev pub invariant-loop-hash : goal.invariant-loop-hash
invariant-loop-hash l = record {
  text : l.text.items ≡ l.initial.text.items ++ hash_lines (hashes_of (take l.hash-index l.hashes));
  hashes : AreHashes (hashes_of (take l.hash-index l.hashes));
}
