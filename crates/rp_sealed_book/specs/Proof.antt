-- The output of a book for readers without the book, and what it shows.
use Rattle.std.specs.Prelude.{◌≡◌, ◌-◌, ◌<◌, ◌⊎◌, ℕ, Bool, true, false, List, Option, None, Some, length, map, take}
use Rattle.std.specs.List.{AllByRecursion}
use Rattle.rp_io.specs.Bytes.{Appends}
use Rattle.rp_seal.specs.Act.{ActEntry, IsEncodable, act_bytes}
use Rattle.rp_seal.specs.Collision.{HasCollision}
use Rattle.rp_seal.specs.Consistency.{IsConsistencyProof, consistency_inputs}
use Rattle.rp_seal.specs.Inclusion.{IsInclusionProof, inclusion_inputs}
use Rattle.rp_seal.specs.Merkle.{leaf_hash}
use Rattle.rp_seal_text.specs.Checkpoint.{Fields, lines_of}
use Rattle.rp_seal_text.specs.ProofFiles.{ActProofFields, LinkFields, act_proof_text, link_text}
use Rattle.rp_sealed_book.specs.Log.{checkpoint_of, entry_numbered, log_root}
use Rattle.rp_sealed_book.specs.declared.verdict.SealVerdict.{SealVerdict}
use Rattle.rp_sealed_book.specs.declared.verdict.SealVerdict.TheVariants.{Begins}

-- if a seal was written, the lines of the checkpoint of a log were appended to the output of a sink; otherwise nothing was
abbrev pub PutsSeal : List ℕ → List ActEntry → Bool → Option (List ℕ) → Option (List ℕ) → Type 0
PutsSeal origin log false old new = old ≡ new
PutsSeal origin log true old new = Appends old new (lines_of (checkpoint_of origin log))

-- a log has an act with a number, and a proof leads from the act to the root hash of the log
pub record IsProofOf (log : List ActEntry) (number : ℕ) (p : ActProofFields) : Type 0 where
  pub act : entry_numbered log number ≡ Some p.act
  pub size : p.size ≡ length log
  pub leads : IsInclusionProof (log_root log) (length log) (number - 1) (leaf_hash (act_bytes p.act)) p.proof

-- if a log has an act with a number, the text of a proof of the act was appended to the output of a sink; otherwise nothing was
abbrev pub PutsProof : List ActEntry → ℕ → Bool → Option (List ℕ) → Option (List ℕ) → Type 0
PutsProof log number false old new = (entry_numbered log number ≡ None) × (old ≡ new)
PutsProof log number true old new = (p : ActProofFields) × IsProofOf log number p × Appends old new (act_proof_text p)

-- a link leads from the root hash of the first entries of a log to that of all
pub record IsLinkOf (log : List ActEntry) (size : ℕ) (l : LinkFields) : Type 0 where
  pub from : l.from ≡ size
  pub to : l.to ≡ length log
  pub leads : IsConsistencyProof size (log_root (take size log)) (length log) (log_root log) l.proof

-- if a log begins with the sealed entries, the text of a link from them to the log was appended to the output of a sink; otherwise nothing was
abbrev pub PutsLink : List ActEntry → Fields → SealVerdict → Option (List ℕ) → Option (List ℕ) → Type 0
PutsLink log seal Begins old new = (l : LinkFields) × IsLinkOf log seal.size l × Appends old new (link_text l)
PutsLink log seal _ old new = old ≡ new

-- a proof has the size of a seal, and leads from its act, at the place of its number, to the root hash of the seal
pub record LeadsToSeal (p : ActProofFields) (seal : Fields) : Type 0 where
  pub numbered : 0 < p.act.number
  pub size : p.size ≡ seal.size
  pub leads : IsInclusionProof seal.root seal.size (p.act.number - 1) (leaf_hash (act_bytes p.act)) p.proof

-- each log with a seal has the act of a proof with its number, or two different strings of those that are hashed have one hash
abbrev pub HasAct : ActProofFields → Fields → Type 0
HasAct p seal = (log : List ActEntry) → AllByRecursion IsEncodable log → length log ≡ seal.size → log_root log ≡ seal.root
    → (entry_numbered log p.act.number ≡ Some p.act) ⊎ HasCollision (inclusion_inputs (map act_bytes log) seal.size (p.act.number - 1) (act_bytes p.act) p.proof)

-- a link has the sizes of two seals, and leads from the root hash of the first to that of the second
pub record LeadsFrom (old new : Fields) (l : LinkFields) : Type 0 where
  pub from : l.from ≡ old.size
  pub to : l.to ≡ new.size
  pub leads : IsConsistencyProof old.size old.root new.size new.root l.proof

-- each log with the second seal begins with each log that has the first, or two different strings of those that are hashed have one hash
abbrev pub Continues : Fields → Fields → LinkFields → Type 0
Continues old new l = (before after : List ActEntry) → AllByRecursion IsEncodable before → AllByRecursion IsEncodable after → length before ≡ old.size → length after ≡ new.size
    → log_root before ≡ old.root → log_root after ≡ new.root
    → (before ≡ take old.size after) ⊎ HasCollision (consistency_inputs (map act_bytes before) (map act_bytes after) old.size new.size old.root l.proof)
