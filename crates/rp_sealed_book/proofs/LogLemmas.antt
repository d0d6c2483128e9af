-- The leaf hashes and the root hash of a log.
use Rattle.std.proofs.Common.{◌≡◌, inl, inr, ℕ, zero, suc, ◌+◌, ◌≤◌, List, [], ◌∷◌, ◌++◌, length, take, drop, map, refl, ap, ap₂, subst, sym, ◌∙◌, append_assoc, arith, length-take}
use Rattle.std.proofs.lemmas.List.{length-map, map-append, take-append-drop, take-map}
use Rattle.std.specs.List.{AllByRecursion, slice_range}
use Rattle.std.specs.Prelude.{Option, Some, None, IfSome}
use Rattle.rp_book.specs.Act.{Told, act_of}
use Rattle.rp_book.specs.declared.act.Act.{Act}
use Rattle.rp_seal.specs.Act.{ActEntry, IsEncodable, act_bytes}
use Rattle.rp_seal.specs.Hash.{bytes_of, hashes_of}
use Rattle.rp_seal.specs.Merkle.{leaf_hash, root_of, tree_hash}
use Rattle.rp_seal.specs.declared.hash.NodeHash.{NodeHash}
use Rattle.rp_seal.proofs.ActBytes.{same_act}
use Rattle.rp_seal.proofs.Sound.{tree_hash_is_binding}
use Rattle.rp_seal_text.specs.Checkpoint.{Fields}
use Rattle.rp_sealed_book.specs.Log.{checkpoint_of, entries_from, entry_at, leaves_of, log_of, log_root, start_after}
use Rattle.rp_sealed_book.specs.Verdict.{Binds}

-- a log has as many entries as leaf hashes
pub length-leaves : (hashes : List NodeHash) (log : List ActEntry) → hashes_of hashes ≡ leaves_of log → length hashes ≡ length log
length-leaves hashes log is = sym (length-map hashes bytes_of) ∙ ap length is ∙ length-map (map act_bytes log) leaf_hash ∙ length-map log act_bytes

-- the root hash over the first leaf hashes of a log is that of its first entries
pub root-take : (hashes : List NodeHash) (log : List ActEntry) (n : ℕ) → hashes_of hashes ≡ leaves_of log → root_of (hashes_of (take n hashes)) ≡ log_root (take n log)
unfolding tree_hash
root-take hashes log n is =
    ap root_of (sym (take-map bytes_of n hashes) ∙ ap (take n) is ∙ take-map leaf_hash n (map act_bytes log) ∙ ap (map leaf_hash) (take-map act_bytes n log))

-- the root hash over the leaf hashes of a log is that of the log
pub root-whole : (hashes : List NodeHash) (log : List ActEntry) → hashes_of hashes ≡ leaves_of log → root_of (hashes_of hashes) ≡ log_root log
unfolding tree_hash
root-whole hashes log is = ap root_of is

-- hashes, and the leaf hashes of other acts of a script, are all of these
abbrev pub AreCollected : List ℕ → List (List ℕ) → List NodeHash → ℕ → ℕ → List Act → Type 0
AreCollected script all hashes number start rest = hashes_of hashes ++ leaves_of (entries_from script number start (map act_of rest)) ≡ all

-- the leaf hash of the next act comes to those before
pub collect : (script : List ℕ) (all : List (List ℕ)) (rest more : List Act) (act : Act) (hashes new : List NodeHash) (hash : NodeHash) (number next start : ℕ)
    → rest ≡ act ∷ more → next ≡ number + 1 → new ≡ hashes ++ hash ∷ [] → bytes_of hash ≡ leaf_hash (act_bytes (entry_at number (slice_range script start act.end) (act_of act)))
    → AreCollected script all hashes number start rest → AreCollected script all new next act.end more
collect script all rest more act hashes new hash number next start is_rest is_next is_new is_hash kept =
    let first : List ℕ = leaf_hash (act_bytes (entry_at number (slice_range script start act.end) (act_of act))) in
    let others : List (List ℕ) = leaves_of (entries_from script (number + 1) act.end (map act_of more)) in
    let before : hashes_of hashes ++ first ∷ others ≡ all = subst (λ r. AreCollected script all hashes number start r) is_rest kept in
    let grown : hashes_of new ≡ hashes_of hashes ++ first ∷ [] = ap hashes_of is_new ∙ map-append bytes_of hashes (hash ∷ []) ∙ ap (λ h. hashes_of hashes ++ h ∷ []) is_hash in
    ap₂ (λ (hs : List (List ℕ)) (n : ℕ). hs ++ leaves_of (entries_from script n act.end (map act_of more))) grown is_next
    ∙ append_assoc (hashes_of hashes) (first ∷ []) others ∙ before

-- the entry of the next act can be encoded, and so can those of all acts of a script if those of the other acts can
pub encodable-next : (script : List ℕ) (rest more : List Act) (act : Act) (number next start : ℕ) (P : Type 0)
    → rest ≡ act ∷ more → next ≡ number + 1 → IsEncodable (entry_at number (slice_range script start act.end) (act_of act))
    → (AllByRecursion IsEncodable (entries_from script number start (map act_of rest)) → P) → AllByRecursion IsEncodable (entries_from script next act.end (map act_of more)) → P
encodable-next script rest more act number next start P is_rest is_next room kept others =
    kept (subst (λ r. AllByRecursion IsEncodable (entries_from script number start (map act_of r))) (sym is_rest)
    (room, subst (λ n. AllByRecursion IsEncodable (entries_from script n act.end (map act_of more))) is_next others))

-- after the last of some acts the next lines begin at its end
pub start_after-last : (start : ℕ) (before : List Act) (last : Act) → start_after start (map act_of (before ++ last ∷ [])) ≡ last.end
start_after-last start [] last = refl
start_after-last start (act ∷ before) last = start_after-last act.end before last

-- the entries of two lists of acts, one after the other, are those of both
entries-append : (script : List ℕ) (number start : ℕ) (front back : List Act)
    → entries_from script number start (map act_of (front ++ back))
    ≡ entries_from script number start (map act_of front) ++ entries_from script (number + length front) (start_after start (map act_of front)) (map act_of back)
entries-append script number start [] back = ap (λ n. entries_from script n start (map act_of back)) (omega arith)
entries-append script number start (act ∷ front) back =
    let same : number + 1 + length front ≡ number + length (act ∷ front) = omega arith in
    let entry : ActEntry = entry_at number (slice_range script start act.end) (act_of act) in
    ap (λ (es : List ActEntry). entry ∷ es) (entries-append script (number + 1) act.end front back
    ∙ ap (λ n. entries_from script (number + 1) act.end (map act_of front) ++ entries_from script n (start_after act.end (map act_of front)) (map act_of back)) same)

-- acts of a script in two parts: the acts of the second part have the next numbers, and their lines come next
pub record AreHalves (acts front back : List Act) (number start next between : ℕ) : Type 0 where
  pub parts : acts ≡ front ++ back
  pub numbered : next ≡ number + length front
  pub begun : between ≡ start_after start (map act_of front)

-- acts that are split at a place are in two parts
pub halved : (acts front back : List Act) (middle number start next between : ℕ) → front ≡ take middle acts → back ≡ drop middle acts → next ≡ number + length front
    → between ≡ start_after start (map act_of front) → AreHalves acts front back number start next between
halved acts front back middle number start next between is_front is_back numbered begun =
    record { parts = sym (ap₂ (λ (x y : List Act). x ++ y) is_front is_back ∙ take-append-drop middle acts); numbered = numbered; begun = begun }

-- the entries of the acts are those of both parts
entries-halves : (script : List ℕ) (acts front back : List Act) (number start next between : ℕ) → AreHalves acts front back number start next between
    → entries_from script number start (map act_of acts) ≡ entries_from script number start (map act_of front) ++ entries_from script next between (map act_of back)
entries-halves script acts front back number start next between h =
    ap (λ (a : List Act). entries_from script number start (map act_of a)) h.parts ∙ entries-append script number start front back
    ∙ ap₂ (λ n s. entries_from script number start (map act_of front) ++ entries_from script n s (map act_of back)) (sym h.numbered) (sym h.begun)

-- hashes that are the leaf hashes of both parts are those of all acts
pub leaves-halves : (script : List ℕ) (acts front back : List Act) (number start next between : ℕ) (hashes one other : List NodeHash) → AreHalves acts front back number start next between
    → hashes ≡ one ++ other → hashes_of one ≡ leaves_of (entries_from script number start (map act_of front)) → hashes_of other ≡ leaves_of (entries_from script next between (map act_of back))
    → hashes_of hashes ≡ leaves_of (entries_from script number start (map act_of acts))
leaves-halves script acts front back number start next between hashes one other h joined is_one is_other =
    let first : List ActEntry = entries_from script number start (map act_of front) in
    let second : List ActEntry = entries_from script next between (map act_of back) in
    ap hashes_of joined ∙ map-append bytes_of one other ∙ ap₂ (λ (x y : List (List ℕ)). x ++ y) is_one is_other
    ∙ sym (ap leaves_of (entries-halves script acts front back number start next between h)
    ∙ ap (map leaf_hash) (map-append act_bytes first second) ∙ map-append leaf_hash (map act_bytes first) (map act_bytes second))

-- the entries of two logs can be encoded, one after the other, if those of each can
encodable-append : (one other : List ActEntry) → AllByRecursion IsEncodable one → AllByRecursion IsEncodable other → AllByRecursion IsEncodable (one ++ other)
encodable-append [] other room others = others
encodable-append (a ∷ one) other room others = (room.0, encodable-append one other room.1 others)

-- the entries of all acts can be encoded if those of both parts can
pub encodable-halves : (script : List ℕ) (acts front back : List Act) (number start next between : ℕ) → AreHalves acts front back number start next between
    → AllByRecursion IsEncodable (entries_from script number start (map act_of front)) → AllByRecursion IsEncodable (entries_from script next between (map act_of back))
    → AllByRecursion IsEncodable (entries_from script number start (map act_of acts))
encodable-halves script acts front back number start next between h room others =
    subst (AllByRecursion IsEncodable) (sym (entries-halves script acts front back number start next between h)) (encodable-append _ _ room others)

-- two logs with the same bytes are the same log
pub same_logs : (one other : List ActEntry) → AllByRecursion IsEncodable one → AllByRecursion IsEncodable other → map act_bytes one ≡ map act_bytes other → one ≡ other
same_logs [] [] room others same = refl
same_logs [] (b ∷ other) room others same = absurd (let l = ap length same in omega (arith, l))
same_logs (a ∷ one) [] room others same = absurd (let l = ap length same in omega (arith, l))
same_logs (a ∷ one) (b ∷ other) room others same =
    let head : act_bytes a ≡ act_bytes b = (cc) in
    let tail : map act_bytes one ≡ map act_bytes other = (cc) in
    ap₂ (λ (x : ActEntry) (xs : List ActEntry). x ∷ xs) (same_act a b room.0 others.0 head) (same_logs one other room.1 others.1 tail)

-- the first entries of a log can be encoded if all can
pub encodable-take : (n : ℕ) (log : List ActEntry) → AllByRecursion IsEncodable log → AllByRecursion IsEncodable (take n log)
encodable-take zero log room = tt
encodable-take (suc n) [] room = tt
encodable-take (suc n) (a ∷ log) room = (room.0, encodable-take n log room.1)

-- a seal whose root hash is that of the first entries of a log binds each log that was sealed so
pub binds : (seal : Fields) (log : List ActEntry) → AllByRecursion IsEncodable log → seal.size ≤ length log → log_root (take seal.size log) ≡ seal.root → Binds seal log
binds seal log room few root = λ sealed rooms size sealed_root.
    let first : List ActEntry = take (length sealed) log in
    let count : length first ≡ length sealed = length-take (length sealed) log ∙ omega (arith, size, few) in
    let roots : log_root sealed ≡ log_root first = sealed_root ∙ sym root ∙ ap (λ n. log_root (take n log)) (sym size) in
    elim (tree_hash_is_binding (map act_bytes sealed) (map act_bytes first) (length-map sealed act_bytes ∙ sym count ∙ sym (length-map first act_bytes)) roots) [
      | inl same ↦ inl (same_logs sealed first rooms (encodable-take (length sealed) log room) same)
      | inr collision ↦ inr collision
    ]

-- what holds of the log of a text and acts holds of the log of a book that tells them
pub of-book : (told : Option (List ℕ)) (told_acts : Option (List Told)) (text : List ℕ) (acts : List Told) (P : List ActEntry → Type 0)
    → IfSome told (λ script. text ≡ script) → IfSome told_acts (λ kept. acts ≡ kept) → P (log_of text acts) → IfSome told (λ script. IfSome told_acts (λ kept. P (log_of script kept)))
of-book None told_acts text acts P is_text is_acts holds = tt
of-book (Some script) None text acts P is_text is_acts holds = tt
of-book (Some script) (Some kept) text acts P is_text is_acts holds = subst (λ s. P (log_of s kept)) is_text (subst (λ a. P (log_of text a)) is_acts holds)

-- the fields of the checkpoint of a log
pub checkpoint-is : (origin given : List ℕ) (size : ℕ) (root : List ℕ) (hashes : List NodeHash) (log : List ActEntry) → origin ≡ given → size ≡ length hashes → root ≡ root_of (hashes_of hashes)
    → hashes_of hashes ≡ leaves_of log → record { origin = origin; size = size; root = root } ≡ checkpoint_of given log
checkpoint-is origin given size root hashes log is_origin is_size is_root is =
    let count : size ≡ length log = is_size ∙ length-leaves hashes log is in
    let whole : root ≡ log_root log = is_root ∙ root-whole hashes log is in
    λ i. record { origin = is_origin i; size = count i; root = whole i }
