-- The root hash that a proof of inclusion gives, step by step, and what it says of a list of leaf hashes.
use Rattle.std.proofs.Common.{◌≡◌, ℕ, zero, suc, ◌+◌, ◌-◌, ◌<◌, ◌≤◌, inl, inr, List, [], ◌∷◌, length, take, drop, get_or, Option, Some, None, option_map, unwrap_or, cond, arith, refl, ap, subst, sym, ◌∙◌, length-take, length-drop, get_or-take, get_or-drop, ltb}
use Rattle.std.proofs.lemmas.Bool.{cases_lt, cases_eq, lt-ltb, le-ltb, eq-eqb, ne_eqb}
use Rattle.sha2.proofs.Facts256.{length-sha256}
use Rattle.rp_seal.specs.Merkle.{split_point, root_of, inputs_of, node_hash, node_input}
use Rattle.rp_seal.specs.Inclusion.{inclusion_root, path_inputs}
use Rattle.rp_seal.proofs.Splits.{split-pos, split-below}
use Rattle.rp_seal.proofs.Trees.{root-one, root-many}
use Rattle.rp_seal.proofs.Binding.{Has, Separates, AreSized, Within, sized-take, sized-drop, sized-root, inputs_top, node_parts}

-- the option is Some of a value that f maps to y
pub record Preimage {A B : Type 0} (f : A → B) (o : Option A) (y : B) : Type 0 where
  pub value : A
  pub is : o ≡ Some value
  pub maps : f value ≡ y

-- an option that f maps to Some y has a preimage of y
pub preimage : {A B : Type 0} (f : A → B) (o : Option A) (y : B) → option_map f o ≡ Some y → Preimage f o y
preimage f None y h = cc
preimage f (Some x) y h = record { value = x; is = refl; maps = (cc) }

-- of one leaf, without a hash: the leaf hash
pub inclusion_root-end : (index size : ℕ) (leaf : List ℕ) → size ≡ 1 → inclusion_root index size leaf [] ≡ Some leaf
unfolding inclusion_root
inclusion_root-end index size leaf h = ap (λ b. cond b (Some leaf) None) (eq-eqb size 1 h)

-- of no leaf or several, without a hash: none
pub inclusion_root-no_end : (index size : ℕ) (leaf : List ℕ) → (size ≡ 1 → ⊥) → inclusion_root index size leaf [] ≡ None
unfolding inclusion_root
inclusion_root-no_end index size leaf h = ap (λ b. cond b (Some leaf) None) (ne_eqb size 1 h)

-- of at most one leaf, with a hash: none
pub inclusion_root-few : (index size : ℕ) (leaf p : List ℕ) (ps : List (List ℕ)) → size ≤ 1 → inclusion_root index size leaf (p ∷ ps) ≡ None
unfolding inclusion_root
inclusion_root-few index size leaf p ps h =
    let k : ℕ = split_point size in
    ap (λ b. cond b (cond (ltb index k) (option_map (λ h. node_hash h p) (inclusion_root index k leaf ps))
    (option_map (λ h. node_hash p h) (inclusion_root (index - k) (size - k) leaf ps))) None) (le-ltb 1 size h)

-- at an index in the left subtree: the node of the root hash of the left subtree and the first hash
pub inclusion_root-left : (index size : ℕ) (leaf p : List ℕ) (ps : List (List ℕ)) → 1 < size → index < split_point size
    → inclusion_root index size leaf (p ∷ ps) ≡ option_map (λ h. node_hash h p) (inclusion_root index (split_point size) leaf ps)
unfolding inclusion_root
inclusion_root-left index size leaf p ps many at =
    let k : ℕ = split_point size in
    let left : Option (List ℕ) = option_map (λ h. node_hash h p) (inclusion_root index k leaf ps) in
    let right : Option (List ℕ) = option_map (λ h. node_hash p h) (inclusion_root (index - k) (size - k) leaf ps) in
    ap (λ b. cond b (cond (ltb index k) left right) None) (lt-ltb 1 size many)
    ∙ ap (λ b. cond b left right) (lt-ltb index k at)

-- at an index in the right subtree: the node of the first hash and the root hash of the right subtree
pub inclusion_root-right : (index size : ℕ) (leaf p : List ℕ) (ps : List (List ℕ)) → 1 < size → split_point size ≤ index
    → inclusion_root index size leaf (p ∷ ps) ≡ option_map (λ h. node_hash p h) (inclusion_root (index - split_point size) (size - split_point size) leaf ps)
unfolding inclusion_root
inclusion_root-right index size leaf p ps many at =
    let k : ℕ = split_point size in
    let left : Option (List ℕ) = option_map (λ h. node_hash h p) (inclusion_root index k leaf ps) in
    let right : Option (List ℕ) = option_map (λ h. node_hash p h) (inclusion_root (index - k) (size - k) leaf ps) in
    ap (λ b. cond b (cond (ltb index k) left right) None) (lt-ltb 1 size many)
    ∙ ap (λ b. cond b left right) (le-ltb index k at)

-- at an index in the left subtree: the string of that node, and those of the left subtree
inputs-left : (index size : ℕ) (leaf p h : List ℕ) (ps : List (List ℕ)) → index < split_point size → inclusion_root index (split_point size) leaf ps ≡ Some h
    → path_inputs index size leaf (p ∷ ps) ≡ node_input h p ∷ path_inputs index (split_point size) leaf ps
unfolding path_inputs
inputs-left index size leaf p h ps at is =
    let k : ℕ = split_point size in
    let left : List (List ℕ) = node_input (unwrap_or (inclusion_root index k leaf ps) []) p ∷ path_inputs index k leaf ps in
    let right : List (List ℕ) = node_input p (unwrap_or (inclusion_root (index - k) (size - k) leaf ps) []) ∷ path_inputs (index - k) (size - k) leaf ps in
    ap (λ b. cond b left right) (lt-ltb index k at) ∙ ap (λ (o : Option (List ℕ)). node_input (unwrap_or o []) p ∷ path_inputs index k leaf ps) is

-- at an index in the right subtree: the string of that node, and those of the right subtree
inputs-right : (index size : ℕ) (leaf p h : List ℕ) (ps : List (List ℕ)) → split_point size ≤ index → inclusion_root (index - split_point size) (size - split_point size) leaf ps ≡ Some h
    → path_inputs index size leaf (p ∷ ps) ≡ node_input p h ∷ path_inputs (index - split_point size) (size - split_point size) leaf ps
unfolding path_inputs
inputs-right index size leaf p h ps at is =
    let k : ℕ = split_point size in
    let left : List (List ℕ) = node_input (unwrap_or (inclusion_root index k leaf ps) []) p ∷ path_inputs index k leaf ps in
    let right : List (List ℕ) = node_input p (unwrap_or (inclusion_root (index - k) (size - k) leaf ps) []) ∷ path_inputs (index - k) (size - k) leaf ps in
    ap (λ b. cond b left right) (le-ltb index k at) ∙ ap (λ (o : Option (List ℕ)). node_input p (unwrap_or o []) ∷ path_inputs (index - k) (size - k) leaf ps) is

-- the root hash that a proof gives has 32 bytes
inclusion_root-sized : (index size : ℕ) (leaf : List ℕ) (ps : List (List ℕ)) (root : List ℕ) → length leaf ≡ 32 → inclusion_root index size leaf ps ≡ Some root → length root ≡ 32
inclusion_root-sized index size leaf [] root sized is =
    elim (cases_eq size 1) [
      | inl one ↦ let same : Some leaf ≡ Some root = sym (inclusion_root-end index size leaf one) ∙ is in let e : leaf ≡ root = (cc) in sym (ap length e) ∙ sized
      | inr other ↦ let no : None ≡ Some root = sym (inclusion_root-no_end index size leaf other) ∙ is in (cc)
    ]
inclusion_root-sized index size leaf (p ∷ ps) root sized is =
    elim (cases_lt 1 size) [
      | inl many ↦ elim (cases_lt index (split_point size)) [
        | inl at ↦ let found = preimage (λ h. node_hash h p) (inclusion_root index (split_point size) leaf ps) root (sym (inclusion_root-left index size leaf p ps many at) ∙ is) in
            sym (ap length found.maps) ∙ length-sha256 _
        | inr at ↦ let found = preimage (λ h. node_hash p h) (inclusion_root (index - split_point size) (size - split_point size) leaf ps) root (sym (inclusion_root-right index size leaf p ps many at) ∙ is) in
            sym (ap length found.maps) ∙ length-sha256 _
      ]
      | inr few ↦ let no : None ≡ Some root = sym (inclusion_root-few index size leaf p ps few) ∙ is in (cc)
    ]

-- every list of leaf hashes of that size with that root hash has the leaf hash at the index
pub inclusion_root-sound : (S : List ℕ → Type 0) → Separates S → (ps : List (List ℕ)) → AreSized ps → (index size : ℕ) (leaf root : List ℕ) (hs : List (List ℕ)) (d : List ℕ)
    → length leaf ≡ 32 → AreSized hs → length hs ≡ size → index < size → inclusion_root index size leaf ps ≡ Some root → root_of hs ≡ root
    → Within (inputs_of hs) S → Within (path_inputs index size leaf ps) S → get_or hs index d ≡ leaf
inclusion_root-sound S sep [] sp index size leaf root hs d sized sh len within is same ih ip =
    elim (cases_eq size 1) [
      | inl one ↦ let e : Some leaf ≡ Some root = sym (inclusion_root-end index size leaf one) ∙ is in let e' : leaf ≡ root = (cc) in only hs index d (omega arith) (omega arith) (same ∙ sym e')
      | inr other ↦ let no : None ≡ Some root = sym (inclusion_root-no_end index size leaf other) ∙ is in (cc)
    ]
  where
    only : (hs : List (List ℕ)) (index : ℕ) (d : List ℕ) {leaf : List ℕ} → length hs ≡ 1 → index < 1 → root_of hs ≡ leaf → get_or hs index d ≡ leaf
    only [] index d len at same = absurd (omega arith)
    only (h ∷ []) zero d len at same = sym (root-one h) ∙ same
    only (h ∷ []) (suc index) d len at same = absurd (omega arith)
    only (h ∷ g ∷ hs) index d len at same = absurd (omega arith)
inclusion_root-sound S sep (p ∷ ps) sp index size leaf root hs d sized sh len within is same ih ip =
    let k : ℕ = split_point size in
    elim (cases_lt 1 size) [
      | inl many ↦
          let below = split-below size many in
          let pos = split-pos size many in
          let t = length-take k hs in
          let r = length-drop k hs in
          let many_hs : 1 < length hs = omega arith in
          let at_len : split_point (length hs) ≡ k = ap split_point len in
          let top : S (node_input (root_of (take k hs)) (root_of (drop k hs))) × Within (inputs_of (take k hs)) S × Within (inputs_of (drop k hs)) S =
          subst (λ j. S (node_input (root_of (take j hs)) (root_of (drop j hs))) × Within (inputs_of (take j hs)) S × Within (inputs_of (drop j hs)) S) at_len (inputs_top S hs many_hs ih) in
          let whole : root_of hs ≡ node_hash (root_of (take k hs)) (root_of (drop k hs)) = root-many hs many_hs ∙ ap (λ j. node_hash (root_of (take j hs)) (root_of (drop j hs))) at_len in
          elim (cases_lt index k) [
            | inl at ↦
                let found = preimage (λ h. node_hash h p) (inclusion_root index k leaf ps) root (sym (inclusion_root-left index size leaf p ps many at) ∙ is) in
                let h : List ℕ = found.value in
                let ins = inputs-left index size leaf p h ps at found.is in
                let ip' : Within (node_input h p ∷ path_inputs index k leaf ps) S = λ x m. ip x (subst (λ v. Has v x) (sym ins) m) in
                let parts = node_parts S sep (root_of (take k hs)) (root_of (drop k hs)) h p
                (sized-root (take k hs) (sized-take k hs sh) ∙ sym (inclusion_root-sized index k leaf ps h sized found.is)) top.0 (ip' _ (inl refl)) (sym whole ∙ same ∙ sym found.maps) in
                let there : get_or (take k hs) index d ≡ leaf = inclusion_root-sound S sep ps sp.1 index k leaf h (take k hs) d sized (sized-take k hs sh) (omega (arith, t, below)) at found.is parts.0 top.1 (λ x m. ip' x (inr m)) in
                sym (get_or-take k hs index d at) ∙ there
            | inr at ↦
                let found = preimage (λ h. node_hash p h) (inclusion_root (index - k) (size - k) leaf ps) root (sym (inclusion_root-right index size leaf p ps many at) ∙ is) in
                let h : List ℕ = found.value in
                let ins = inputs-right index size leaf p h ps at found.is in
                let ip' : Within (node_input p h ∷ path_inputs (index - k) (size - k) leaf ps) S = λ x m. ip x (subst (λ v. Has v x) (sym ins) m) in
                let parts = node_parts S sep (root_of (take k hs)) (root_of (drop k hs)) p h
                (sized-root (take k hs) (sized-take k hs sh) ∙ sym sp.0) top.0 (ip' _ (inl refl)) (sym whole ∙ same ∙ sym found.maps) in
                let there : get_or (drop k hs) (index - k) d ≡ leaf = inclusion_root-sound S sep ps sp.1 (index - k) (size - k) leaf h (drop k hs) d sized (sized-drop k hs sh) (omega (arith, r, len)) (omega (arith, below)) found.is parts.1 top.2 (λ x m. ip' x (inr m)) in
                let again : k + (index - k) ≡ index = omega arith in
                ap (λ j. get_or hs j d) (sym again) ∙ sym (get_or-drop k hs (index - k) d) ∙ there
          ]
      | inr few ↦ let no : None ≡ Some root = sym (inclusion_root-few index size leaf p ps few) ∙ is in (cc)
    ]
