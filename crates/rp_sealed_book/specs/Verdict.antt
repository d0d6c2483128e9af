-- The result of a comparison of a log with a seal.
use Rattle.std.specs.Prelude.{◌≡◌, ◌≢◌, ◌<◌, ◌≤◌, ◌⊎◌, List, ◌++◌, length, map, take}
use Rattle.std.specs.List.{AllByRecursion}
use Rattle.rp_seal.specs.Act.{ActEntry, IsEncodable, act_bytes}
use Rattle.rp_seal.specs.Collision.{HasCollision}
use Rattle.rp_seal.specs.Merkle.{tree_inputs}
use Rattle.rp_seal_text.specs.Checkpoint.{Fields}
use Rattle.rp_sealed_book.specs.Log.{log_root}
use Rattle.rp_sealed_book.specs.declared.verdict.SealVerdict.{SealVerdict}
use Rattle.rp_sealed_book.specs.declared.verdict.SealVerdict.TheVariants.{Begins, Differs, Shorter}

-- the verdict on a log and a seal: its first entries, as many as are sealed, have the sealed root hash, or have another one; or the log has fewer entries
abbrev pub IsVerdict : Fields → List ActEntry → SealVerdict → Type 0
IsVerdict seal log Begins = (seal.size ≤ length log) × (log_root (take seal.size log) ≡ seal.root)
IsVerdict seal log Differs = (seal.size ≤ length log) × (log_root (take seal.size log) ≢ seal.root)
IsVerdict seal log Shorter = length log < seal.size

-- a log is the beginning of another one, or two different strings of those that are hashed for the root hashes have one hash
abbrev pub IsBeginning : List ActEntry → List ActEntry → Type 0
IsBeginning sealed log =
    (sealed ≡ take (length sealed) log) ⊎ HasCollision (tree_inputs (map act_bytes sealed) ++ tree_inputs (map act_bytes (take (length sealed) log)))

-- each log of the sealed size with the sealed root hash is the beginning of a log
abbrev pub Binds : Fields → List ActEntry → Type 0
Binds seal log = (sealed : List ActEntry) → AllByRecursion IsEncodable sealed → length sealed ≡ seal.size → log_root sealed ≡ seal.root → IsBeginning sealed log
