-- The text of a proof's hashes.
use Rattle.std.specs.Prelude.{◌≡◌, ℕ, List, [], ◌∷◌, ◌++◌, All, codes, flat_map, length}
use Rattle.base64.specs.Engines.{standard}
use Rattle.base64.specs.GeneralPurpose.{IsBytes, encode_of}
use Rattle.rp_seal_text.specs.Fields.{number_line}

-- a hash is 32 bytes
pub record IsHash (hash : List ℕ) : Type 0 where
  pub sized : length hash ≡ 32
  pub bytes : IsBytes hash

-- each item of the list is a hash
abbrev pub AreHashes : List (List ℕ) → Type 0
AreHashes hashes = All IsHash hashes

-- a hash in base64, with a line end
abbrev pub hash_line : List ℕ → List ℕ
hash_line hash = encode_of standard hash ++ 10 ∷ []

-- the lines of hashes, one after another
abbrev pub hash_lines : List (List ℕ) → List ℕ
hash_lines hashes = flat_map hash_line hashes

-- the text of a proof's hashes: a line with their number, and a line for each
abbrev pub hashes_text : List (List ℕ) → List ℕ
hashes_text hashes = number_line (codes "proof") (length hashes) ++ hash_lines hashes
