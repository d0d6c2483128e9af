-- The bytes of hashes.
use Rattle.std.specs.Prelude.{ℕ, List, map}
use Rattle.rp_seal.specs.declared.hash.NodeHash.{NodeHash}

-- the bytes of a hash
abbrev pub bytes_of : NodeHash → List ℕ
bytes_of h = h.bytes

-- the bytes of each hash of a list
abbrev pub hashes_of : List NodeHash → List (List ℕ)
hashes_of hs = map bytes_of hs
