use Rattle.std.proofs.Common.{◌≡◌, ◌++◌, ℕ, List, length}
use Rattle.rp_seal.specs.Hash.{hashes_of}
use Rattle.rp_seal_text.specs.Hashes.{AreHashes, hash_lines}
use Rattle.rp_seal_text.proofs.HashLemmas.{IsLeft}
use Rattle.rp_seal_text.proofs.hashes.read_hashes.Given as goal

abbrev pub invariant-lines : goal.invariant-lines
invariant-lines l = record {
  count : length l.hashes.items ≡ l.counter;
  found : l.text ≡ hash_lines (hashes_of l.hashes.items) ++ l.rest;
  hashes : AreHashes (hashes_of l.hashes.items);
  each : (hashes : List (List ℕ)) → length hashes ≡ l.count → AreHashes hashes → l.text ≡ hash_lines hashes
      → IsLeft hashes (hashes_of l.hashes.items) l.rest;
}
