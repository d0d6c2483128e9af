-- What an accepted proof says of every list of entries with the root hashes.
use Rattle.std.proofs.Common.{◌≡◌, ℕ, zero, suc, ◌<◌, ◌≤◌, ◌⊎◌, inl, inr, List, [], ◌∷◌, ◌++◌, length, map, take, reverse, get_or, slice_get, Some, arith, refl, ap, subst, sym, ◌∙◌}
use Rattle.std.proofs.lemmas.List.{get_or-map, take-map, length-map, nil_from_length, reverse-append}
use Rattle.std.proofs.lemmas.Option.{slice_get-get_or}
use Rattle.sha2.proofs.Facts256.{length-sha256}
use Rattle.rp_seal.specs.declared.hash.NodeHash.{NodeHash}
use Rattle.rp_seal.specs.Hash.{hashes_of}
use Rattle.rp_seal.specs.Merkle.{leaf_hash, leaf_input, root_of, inputs_of, tree_hash, tree_inputs}
use Rattle.rp_seal.specs.Collision.{HasCollision}
use Rattle.rp_seal.specs.Inclusion.{IsInclusionProof, path_inputs, inclusion_inputs}
use Rattle.rp_seal.specs.Consistency.{Roots, IsConsistencyProof, IsProofFromNonEmpty, root_pair, consistency_roots, inputs_along, consistency_inputs}
use Rattle.rp_seal.proofs.Binding.{Has, AreSized, Within, has_left, has_right, same_entries, same_leaves, sized-leaves}
use Rattle.rp_seal.proofs.InclusionPaths.{inclusion_root-sound, preimage}
use Rattle.rp_seal.proofs.ConsistencyPaths.{consistency_roots-sound}
use Rattle.rp_seal.proofs.Collisions.{collide_or_not, has_leaf}

-- the hashes of a slice have 32 bytes
pub sized-hashes : (rs : List NodeHash) → AreSized (hashes_of rs)
sized-hashes [] = tt
sized-hashes (r ∷ rs) = (r.sized, sized-hashes rs)

-- two lists of hashes of 32 bytes together are one
sized-append : (xs ys : List (List ℕ)) → AreSized xs → AreSized ys → AreSized (xs ++ ys)
sized-append [] ys a b = b
sized-append (x ∷ xs) ys a b = (a.0, sized-append xs ys a.1 b)

-- a list of hashes of 32 bytes, reversed, is one
pub sized-reverse : (xs : List (List ℕ)) → AreSized xs → AreSized (reverse xs)
sized-reverse [] s = tt
sized-reverse (x ∷ xs) s = subst AreSized (sym (reverse-append (x ∷ []) xs)) (sized-append (reverse xs) (x ∷ []) (sized-reverse xs s.1) (s.0, tt))

-- S has the strings of the entries, if it has all strings of the tree
leaves_within : (S : List ℕ → Type 0) (es : List (List ℕ)) → Within (tree_inputs es) S → Within (map leaf_input es) S
unfolding tree_inputs
leaves_within S es all = λ x h. all x (has_left (map leaf_input es) (inputs_of (map leaf_hash es)) x h)

-- S has the strings of the inner nodes, if it has all strings of the tree
nodes_within : (S : List ℕ → Type 0) (es : List (List ℕ)) → Within (tree_inputs es) S → Within (inputs_of (map leaf_hash es)) S
unfolding tree_inputs
nodes_within S es all = λ x h. all x (has_right (map leaf_input es) (inputs_of (map leaf_hash es)) x h)

-- the tree hash of entries is the root hash over their leaf hashes
root_is : (es : List (List ℕ)) (root : List ℕ) → tree_hash es ≡ root → root_of (map leaf_hash es) ≡ root
unfolding tree_hash
root_is es root h = h

-- every list of entries of that size with that tree hash has the entry at the index, or two of the strings collide
pub inclusion_proof-sound : (root : List ℕ) (size index : ℕ) (entry : List ℕ) (proof : List (List ℕ)) → AreSized proof → IsInclusionProof root size index (leaf_hash entry) proof
    → (entries : List (List ℕ)) → length entries ≡ size → tree_hash entries ≡ root
    → (slice_get entries index ≡ Some entry) ⊎ HasCollision (inclusion_inputs entries size index entry proof)
inclusion_proof-sound root size index entry proof sized is entries len same =
    let xs : List (List ℕ) = inclusion_inputs entries size index entry proof in
    let within : index < size = is.within in
    let at : index < length entries = omega arith in
    elim (collide_or_not xs) [
      | inl c ↦ inr c
      | inr sep ↦
          let in_tree : Within (tree_inputs entries) (Has xs) = λ x h. has_left (tree_inputs entries) (leaf_input entry ∷ path_inputs index size (leaf_hash entry) (reverse proof)) x h in
          let in_path : Within (leaf_input entry ∷ path_inputs index size (leaf_hash entry) (reverse proof)) (Has xs) = λ x h. has_right (tree_inputs entries) _ x h in
          let found : get_or (map leaf_hash entries) index [] ≡ leaf_hash entry = inclusion_root-sound (Has xs) sep (reverse proof) (sized-reverse proof sized) index size (leaf_hash entry) root (map leaf_hash entries) []
          (length-sha256 (leaf_input entry)) (sized-leaves entries) (length-map entries leaf_hash ∙ len) within is.leads (root_is entries root same)
          (nodes_within (Has xs) entries in_tree) (λ x h. in_path x (inr h)) in
          let same_hash : leaf_hash (get_or entries index []) ≡ leaf_hash entry = sym (get_or-map leaf_hash entries index [] [] at) ∙ found in
          let same_input : leaf_input (get_or entries index []) ≡ leaf_input entry = sep _ _ (leaves_within (Has xs) entries in_tree _ (has_leaf entries index at)) (in_path _ (inl refl)) same_hash in
          let same_entry : get_or entries index [] ≡ entry = (cc) in
          inl (slice_get-get_or entries index [] at ∙ ap (λ (e : List ℕ). Some e) same_entry)
    ]

-- every list with the first tree hash is the beginning of every list with the second, or two of the strings collide; the first list is not empty
pub non_empty_proof-sound : (first : ℕ) (first_root : List ℕ) (second : ℕ) (second_root : List ℕ) (proof : List (List ℕ)) → length first_root ≡ 32 → AreSized proof
    → IsProofFromNonEmpty first first_root second second_root proof
    → (before after : List (List ℕ)) → length before ≡ first → length after ≡ second → tree_hash before ≡ first_root → tree_hash after ≡ second_root
    → (before ≡ take first after) ⊎ HasCollision (consistency_inputs before after first second first_root proof)
non_empty_proof-sound first first_root second second_root proof known sized is before after lb la rb ra =
    let xs : List (List ℕ) = consistency_inputs before after first second first_root proof in
    let longer : first ≤ second = is.longer in
    elim (collide_or_not xs) [
      | inl c ↦ inr c
      | inr sep ↦
          let found = preimage root_pair (consistency_roots first second (Some first_root) (reverse proof)) (first_root, second_root) is.leads in
          let r : Roots = found.value in
          let along : List (List ℕ) = inputs_along (consistency_roots first second (Some first_root) (reverse proof)) in
          let same_along : along ≡ r.inputs = ap inputs_along found.is in
          let in_both : Within (tree_inputs before ++ tree_inputs after) (Has xs) = λ x h. has_left (tree_inputs before ++ tree_inputs after) along x h in
          let in_before : Within (tree_inputs before) (Has xs) = λ x h. in_both x (has_left (tree_inputs before) (tree_inputs after) x h) in
          let in_after : Within (tree_inputs after) (Has xs) = λ x h. in_both x (has_right (tree_inputs before) (tree_inputs after) x h) in
          let in_proof : Within r.inputs (Has xs) = λ x h. has_right (tree_inputs before ++ tree_inputs after) along x (subst (λ (v : List (List ℕ)). Has v x) (sym same_along) h) in
          let hashes : map leaf_hash before ≡ take first (map leaf_hash after) = consistency_roots-sound (Has xs) sep (reverse proof) (sized-reverse proof sized) first second (Some first_root) r
          (map leaf_hash before) (map leaf_hash after) is.some longer known (length-map before leaf_hash ∙ lb) (length-map after leaf_hash ∙ la) (sized-leaves before) (sized-leaves after)
          found.is (root_is before first_root rb ∙ sym (ap (λ (v : List ℕ × List ℕ). v.0) found.maps)) (root_is after second_root ra ∙ sym (ap (λ (v : List ℕ × List ℕ). v.1) found.maps))
          (nodes_within (Has xs) before in_before) (nodes_within (Has xs) after in_after) in_proof in
          inl (same_entries (Has xs) sep before (take first after) (hashes ∙ take-map leaf_hash first after) (leaves_within (Has xs) before in_before)
          (λ x h. leaves_within (Has xs) after in_after x (has_take first after x h)))
    ]
  where
    has_take : (n : ℕ) (es : List (List ℕ)) (x : List ℕ) → Has (map leaf_input (take n es)) x → Has (map leaf_input es) x
    has_take zero es x h = absurd h
    has_take (suc n) [] x h = absurd h
    has_take (suc n) (e ∷ es) x (inl p) = inl p
    has_take (suc n) (e ∷ es) x (inr h) = inr (has_take n es x h)

-- every list with the first tree hash is the beginning of every list with the second, or two of the strings collide
pub consistency_proof-sound : (first : ℕ) (first_root : List ℕ) (second : ℕ) (second_root : List ℕ) (proof : List (List ℕ)) → length first_root ≡ 32 → AreSized proof
    → IsConsistencyProof first first_root second second_root proof
    → (before after : List (List ℕ)) → length before ≡ first → length after ≡ second → tree_hash before ≡ first_root → tree_hash after ≡ second_root
    → (before ≡ take first after) ⊎ HasCollision (consistency_inputs before after first second first_root proof)
consistency_proof-sound first first_root second second_root proof known sized (inl is) before after lb la rb ra = non_empty_proof-sound first first_root second second_root proof known sized is before after lb la rb ra
consistency_proof-sound first first_root second second_root proof known sized (inr is) before after lb la rb ra =
    let none : first ≡ 0 = is.none in
    inl (nil_from_length before (lb ∙ none) ∙ ap (λ n. take n after) (sym none))

-- two lists of one length with one tree hash are equal, or two of the strings collide
pub tree_hash_is_binding : (one other : List (List ℕ)) → length one ≡ length other → tree_hash one ≡ tree_hash other → (one ≡ other) ⊎ HasCollision (tree_inputs one ++ tree_inputs other)
tree_hash_is_binding one other len same =
    let xs : List (List ℕ) = tree_inputs one ++ tree_inputs other in
    elim (collide_or_not xs) [
      | inl c ↦ inr c
      | inr sep ↦
          let in_one : Within (tree_inputs one) (Has xs) = λ x h. has_left (tree_inputs one) (tree_inputs other) x h in
          let in_other : Within (tree_inputs other) (Has xs) = λ x h. has_right (tree_inputs one) (tree_inputs other) x h in
          let hashes : map leaf_hash one ≡ map leaf_hash other = same_leaves (Has xs) sep (map leaf_hash one) (map leaf_hash other)
          (length-map one leaf_hash ∙ len ∙ sym (length-map other leaf_hash)) (sized-leaves one) (sized-leaves other)
          (root_is one (tree_hash other) same ∙ sym (root_is other (tree_hash other) refl)) (nodes_within (Has xs) one in_one) (nodes_within (Has xs) other in_other) in
          inl (same_entries (Has xs) sep one other hashes (leaves_within (Has xs) one in_one) (leaves_within (Has xs) other in_other))
    ]
