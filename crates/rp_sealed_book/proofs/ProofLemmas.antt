-- The entry of an act, and what a proof that leads from it to a root hash shows.
use Rattle.std.proofs.Common.{◌≡◌, ◌⊎◌, ◌↔◌, inl, inr, Bool, IsTrue, ℕ, zero, suc, ◌+◌, ◌-◌, ◌<◌, List, [], ◌∷◌, length, take, map, refl, ap, subst, ◌∙◌, arith}
use Rattle.std.specs.Prelude.{Some, option_map, slice_get, slice_index, slice_index_or}
use Rattle.std.specs.List.{AllByRecursion, slice_range}
use Rattle.std.proofs.lemmas.List.{length-map, take-map}
use Rattle.rp_book.specs.Act.{act_of}
use Rattle.rp_book.specs.declared.act.Act.{Act}
use Rattle.rp_seal.specs.Act.{ActEntry, IsEncodable, act_bytes}
use Rattle.rp_seal.specs.Collision.{HasCollision}
use Rattle.rp_seal.specs.Consistency.{IsConsistencyProof, consistency_inputs}
use Rattle.rp_seal.specs.Hash.{hashes_of}
use Rattle.rp_seal.specs.Inclusion.{IsInclusionProof, inclusion_inputs}
use Rattle.rp_seal.specs.Merkle.{leaf_hash, root_of, tree_hash}
use Rattle.rp_seal.specs.declared.hash.NodeHash.{NodeHash}
use Rattle.rp_seal.proofs.ActBytes.{same_act}
use Rattle.rp_seal_text.specs.Checkpoint.{Fields}
use Rattle.rp_seal_text.specs.ProofFiles.{ActProofFields, LinkFields}
use Rattle.rp_sealed_book.specs.Log.{entries_from, entry_at, entry_numbered, leaves_of, log_of, log_root}
use Rattle.rp_sealed_book.specs.Proof.{Continues, HasAct, LeadsToSeal}
use Rattle.rp_sealed_book.proofs.LogLemmas.{encodable-take, length-leaves, root-take, root-whole, same_logs}

-- the entry of the act at a place, where the first act has a number and begins at a byte
entries-at : (script : List ℕ) (number start : ℕ) (acts : List Act) (place : ℕ) → slice_get (entries_from script number start (map act_of acts)) place
    ≡ option_map (λ (act : Act). entry_at (number + place) (slice_range script (slice_index (start ∷ map (λ a. a.end) (map act_of acts)) place) act.end) (act_of act)) (slice_get acts place)
entries-at script number start [] place = refl
entries-at script number start (a ∷ acts) zero = ap (λ n. Some (entry_at n (slice_range script start a.end) (act_of a))) (let e : number ≡ number + zero = omega arith in e)
entries-at script number start (a ∷ acts) (suc place) =
    let step : number + 1 + place ≡ number + suc place = omega arith in
    entries-at script (number + 1) a.end acts place
    ∙ ap (λ n. option_map (λ (act : Act). entry_at n (slice_range script (slice_index (a.end ∷ map (λ b. b.end) (map act_of acts)) place) act.end) (act_of act)) (slice_get acts place)) step

-- the entry with the number of a place above 0
pub entry-at-place : (script : List ℕ) (acts : List Act) (place number : ℕ) → number ≡ place + 1 → entry_numbered (log_of script (map act_of acts)) number
    ≡ option_map (λ (act : Act). entry_at number (slice_range script (slice_index (0 ∷ map (λ a. a.end) (map act_of acts)) place) act.end) (act_of act)) (slice_get acts place)
entry-at-place script acts place zero is = absurd (omega (arith, is))
entry-at-place script acts place (suc n) is =
    let same : n ≡ place = omega (arith, is) in
    let step : 1 + place ≡ suc n = omega (arith, is) in
    ap (slice_get (log_of script (map act_of acts))) same ∙ entries-at script 1 0 acts place
    ∙ ap (λ k. option_map (λ (act : Act). entry_at k (slice_range script (slice_index (0 ∷ map (λ a. a.end) (map act_of acts)) place) act.end) (act_of act)) (slice_get acts place)) step

-- a log with an entry at a place has that leaf hash there, and more entries than the place
pub leaf-at : (log : List ActEntry) (place : ℕ) (e : ActEntry) → slice_get log place ≡ Some e → (place < length log) × (slice_index_or (leaves_of log) place [] ≡ leaf_hash (act_bytes e))
leaf-at [] place e found = absurd (cc)
leaf-at (a ∷ log) zero e found = let same : a ≡ e = (cc) in (omega arith, ap (λ x. leaf_hash (act_bytes x)) same)
leaf-at (a ∷ log) (suc place) e found = let more = leaf-at log place e found in (omega (arith, more.0), more.1)

-- the place of an entry with a number
pub place-of : (log : List ActEntry) (number : ℕ) (e : ActEntry) → entry_numbered log number ≡ Some e → (0 < number) × (slice_get log (number - 1) ≡ Some e)
place-of log zero e found = absurd (cc)
place-of log (suc n) e found = (omega arith, ap (slice_get log) (let s : suc n - 1 ≡ n = omega arith in s) ∙ found)

-- the number of an entry at a place
pub numbered-at : (log : List ActEntry) (number : ℕ) (e : ActEntry) → 0 < number → slice_get log (number - 1) ≡ Some e → entry_numbered log number ≡ Some e
numbered-at log zero e some found = absurd (omega (arith, some))
numbered-at log (suc n) e some found = ap (slice_get log) (let s : n ≡ suc n - 1 = omega arith in s) ∙ found

-- an inclusion proof by the leaf hashes of a log leads from an entry to the root hash of the log
pub included : (hashes : List NodeHash) (log : List ActEntry) (place : ℕ) (e : ActEntry) (proof : List (List ℕ)) → hashes_of hashes ≡ leaves_of log → slice_get log place ≡ Some e
    → IsInclusionProof (root_of (hashes_of hashes)) (length hashes) place (slice_index_or (hashes_of hashes) place []) proof → IsInclusionProof (log_root log) (length log) place (leaf_hash (act_bytes e)) proof
included hashes log place e proof is found leads =
    let leaf : slice_index_or (hashes_of hashes) place [] ≡ leaf_hash (act_bytes e) = ap (λ hs. slice_index_or hs place []) is ∙ (leaf-at log place e found).1 in
    subst (λ r. IsInclusionProof r (length log) place (leaf_hash (act_bytes e)) proof) (root-whole hashes log is)
    (subst (λ n. IsInclusionProof (root_of (hashes_of hashes)) n place (leaf_hash (act_bytes e)) proof) (length-leaves hashes log is)
    (subst (λ l. IsInclusionProof (root_of (hashes_of hashes)) (length hashes) place l proof) leaf leads))

-- a consistency proof by the leaf hashes of a log leads from the root hash of its first entries to that of all
pub continued : (hashes : List NodeHash) (log : List ActEntry) (size : ℕ) (proof : List (List ℕ)) → hashes_of hashes ≡ leaves_of log
    → IsConsistencyProof size (root_of (hashes_of (take size hashes))) (length hashes) (root_of (hashes_of hashes)) proof → IsConsistencyProof size (log_root (take size log)) (length log) (log_root log) proof
continued hashes log size proof is leads =
    subst (λ r. IsConsistencyProof size (log_root (take size log)) (length log) r proof) (root-whole hashes log is)
    (subst (λ n. IsConsistencyProof size (log_root (take size log)) n (root_of (hashes_of hashes)) proof) (length-leaves hashes log is)
    (subst (λ r. IsConsistencyProof size r (length hashes) (root_of (hashes_of hashes)) proof) (root-take hashes log size is) leads))

-- a log with the bytes of an act at a place has the act there
act-at : (log : List ActEntry) (place : ℕ) (a : ActEntry) → AllByRecursion IsEncodable log → IsEncodable a → slice_get (map act_bytes log) place ≡ Some (act_bytes a) → slice_get log place ≡ Some a
act-at [] place a rooms room found = absurd (cc)
act-at (b ∷ log) zero a rooms room found = let same : act_bytes b ≡ act_bytes a = (cc) in ap (λ (e : ActEntry). Some e) (same_act b a rooms.0 room same)
act-at (b ∷ log) (suc place) a rooms room found = act-at log place a rooms.1 room found

-- what an accepted inclusion proof says of lists of bytes
abbrev pub Shows : Fields → ℕ → List ℕ → List (List ℕ) → Type 0
Shows seal place bytes hashes = (entries : List (List ℕ)) → length entries ≡ seal.size → tree_hash entries ≡ seal.root
    → (slice_get entries place ≡ Some bytes) ⊎ HasCollision (inclusion_inputs entries seal.size place bytes hashes)

-- a proof leads from its act to a seal, if it leads from the bytes of the act at the place of its number
pub leads-to : (p : ActProofFields) (seal : Fields) (place : ℕ) (bytes : List ℕ) (hashes : List (List ℕ)) (test : Bool) → place ≡ p.act.number - 1 → 0 < p.act.number → p.size ≡ seal.size
    → bytes ≡ act_bytes p.act → hashes ≡ p.proof → (IsTrue test ↔ IsInclusionProof seal.root seal.size place (leaf_hash bytes) hashes) → IsTrue test ↔ LeadsToSeal p seal
leads-to p seal place bytes hashes test is_place some size is_bytes is_hashes exact =
    let same : (IsTrue test ↔ IsInclusionProof seal.root seal.size (p.act.number - 1) (leaf_hash (act_bytes p.act)) p.proof) =
    subst (λ k. IsTrue test ↔ IsInclusionProof seal.root seal.size k (leaf_hash (act_bytes p.act)) p.proof) is_place
    (subst (λ b. IsTrue test ↔ IsInclusionProof seal.root seal.size place (leaf_hash b) p.proof) is_bytes
    (subst (λ hs. IsTrue test ↔ IsInclusionProof seal.root seal.size place (leaf_hash bytes) hs) is_hashes exact)) in
    (λ t. record { numbered = some; size = size; leads = same.0 t }, λ l. same.1 l.leads)

-- what an accepted inclusion proof says of lists of bytes, it says of logs
pub has-act : (p : ActProofFields) (seal : Fields) (place : ℕ) (bytes : List ℕ) (hashes : List (List ℕ)) → IsEncodable p.act → place ≡ p.act.number - 1 → 0 < p.act.number
    → bytes ≡ act_bytes p.act → hashes ≡ p.proof → Shows seal place bytes hashes → HasAct p seal
has-act p seal place bytes hashes room is_place some is_bytes is_hashes shows = λ log rooms size root.
    let same : Shows seal (p.act.number - 1) (act_bytes p.act) p.proof =
    subst (λ k. Shows seal k (act_bytes p.act) p.proof) is_place (subst (λ b. Shows seal place b p.proof) is_bytes (subst (λ hs. Shows seal place bytes hs) is_hashes shows)) in
    elim (same (map act_bytes log) (length-map log act_bytes ∙ size) root) [
      | inl found ↦ inl (numbered-at log p.act.number p.act some (act-at log (p.act.number - 1) p.act rooms room found))
      | inr collision ↦ inr collision
    ]

-- what an accepted consistency proof says of lists of bytes
abbrev pub ShowsBeginning : Fields → Fields → List (List ℕ) → Type 0
ShowsBeginning old new hashes = (before after : List (List ℕ)) → length before ≡ old.size → length after ≡ new.size → tree_hash before ≡ old.root → tree_hash after ≡ new.root
    → (before ≡ take old.size after) ⊎ HasCollision (consistency_inputs before after old.size new.size old.root hashes)

-- what an accepted consistency proof says of lists of bytes, it says of logs
pub continues : (old new : Fields) (l : LinkFields) (hashes : List (List ℕ)) → hashes ≡ l.proof → ShowsBeginning old new hashes → Continues old new l
continues old new l hashes is shows = λ before after rooms others size new_size root new_root.
    elim (subst (ShowsBeginning old new) is shows (map act_bytes before) (map act_bytes after) (length-map before act_bytes ∙ size) (length-map after act_bytes ∙ new_size) root new_root) [
      | inl same ↦ inl (same_logs before (take old.size after) rooms (encodable-take old.size after others) (same ∙ take-map act_bytes old.size after))
      | inr collision ↦ inr collision
    ]
