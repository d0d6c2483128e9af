-- The root hashes that a proof of consistency gives, step by step, and what they say of two lists of leaf hashes.
use Rattle.std.proofs.Common.{◌≡◌, ℕ, ◌+◌, ◌-◌, ◌*◌, ◌<◌, ◌≤◌, inl, inr, List, [], ◌∷◌, ◌++◌, length, take, drop, Option, Some, None, option_map, cond, leb, arith, refl, ap, ap₂, subst, sym, ◌∙◌, length-take, length-drop, take-append-drop, take_all, take-take, take-add}
use Rattle.std.proofs.lemmas.Bool.{cases_lt, cases_eq, le-leb, lt-leb, eq-eqb, ne_eqb}
use Rattle.sha2.proofs.Facts256.{length-sha256}
use Rattle.rp_seal.specs.Merkle.{split_point, root_of, inputs_of, node_hash, node_input}
use Rattle.rp_seal.specs.Consistency.{Roots, in_left, in_right, equal_roots, common_roots, consistency_roots}
use Rattle.rp_seal.proofs.Splits.{split-is, split-only, split-pos}
use Rattle.rp_seal.proofs.Trees.{root-many}
use Rattle.rp_seal.proofs.Binding.{Has, Separates, AreSized, Within, sized-take, sized-drop, sized-root, inputs_top, node_parts, same_leaves}
use Rattle.rp_seal.proofs.InclusionPaths.{preimage}

-- of two trees of one size: the root hashes of a common subtree
pub consistency_roots-same : (first second : ℕ) (known : Option (List ℕ)) (ps : List (List ℕ)) → first ≡ second → consistency_roots first second known ps ≡ common_roots known ps
unfolding consistency_roots
consistency_roots-same first second known [] h = ap (λ b. cond b (common_roots known []) None) (eq-eqb first second h)
consistency_roots-same first second known (p ∷ ps) h =
    let k : ℕ = split_point second in
    ap (λ b. cond b (common_roots known (p ∷ ps)) (cond (leb first k) (option_map (in_left p) (consistency_roots first k known ps))
    (option_map (in_right p) (consistency_roots (first - k) (second - k) None ps)))) (eq-eqb first second h)

-- of two trees of different sizes, without a hash: none
pub consistency_roots-end : (first second : ℕ) (known : Option (List ℕ)) → (first ≡ second → ⊥) → consistency_roots first second known [] ≡ None
unfolding consistency_roots
consistency_roots-end first second known h = ap (λ b. cond b (common_roots known []) None) (ne_eqb first second h)

-- if the shorter tree ends in the left subtree: the root hashes of the left subtree, one level up
pub consistency_roots-left : (first second : ℕ) (known : Option (List ℕ)) (p : List ℕ) (ps : List (List ℕ)) → (first ≡ second → ⊥) → first ≤ split_point second
    → consistency_roots first second known (p ∷ ps) ≡ option_map (in_left p) (consistency_roots first (split_point second) known ps)
unfolding consistency_roots
consistency_roots-left first second known p ps h at =
    let k : ℕ = split_point second in
    let left : Option Roots = option_map (in_left p) (consistency_roots first k known ps) in
    let right : Option Roots = option_map (in_right p) (consistency_roots (first - k) (second - k) None ps) in
    ap (λ b. cond b (common_roots known (p ∷ ps)) (cond (leb first k) left right)) (ne_eqb first second h) ∙ ap (λ b. cond b left right) (le-leb first k at)

-- if the shorter tree ends in the right subtree: the root hashes of the right subtree, one level up
pub consistency_roots-right : (first second : ℕ) (known : Option (List ℕ)) (p : List ℕ) (ps : List (List ℕ)) → (first ≡ second → ⊥) → split_point second < first
    → consistency_roots first second known (p ∷ ps) ≡ option_map (in_right p) (consistency_roots (first - split_point second) (second - split_point second) None ps)
unfolding consistency_roots
consistency_roots-right first second known p ps h at =
    let k : ℕ = split_point second in
    let left : Option Roots = option_map (in_left p) (consistency_roots first k known ps) in
    let right : Option Roots = option_map (in_right p) (consistency_roots (first - k) (second - k) None ps) in
    ap (λ b. cond b (common_roots known (p ∷ ps)) (cond (leb first k) left right)) (ne_eqb first second h) ∙ ap (λ b. cond b left right) (lt-leb first k at)

-- both root hashes of a common subtree are equal
common_roots-same : (known : Option (List ℕ)) (ps : List (List ℕ)) (r : Roots) → common_roots known ps ≡ Some r → r.first ≡ r.second
common_roots-same (Some root) [] r h = let e : equal_roots root ≡ r = (cc) in sym (ap (λ (v : Roots). v.first) e) ∙ ap (λ (v : Roots). v.second) e
common_roots-same (Some root) (p ∷ ps) r h = cc
common_roots-same None [] r h = cc
common_roots-same None (p ∷ []) r h = let e : equal_roots p ≡ r = (cc) in sym (ap (λ (v : Roots). v.first) e) ∙ ap (λ (v : Roots). v.second) e
common_roots-same None (p ∷ q ∷ ps) r h = cc

-- the root hash, if there is one, has 32 bytes
abbrev pub IsSized : Option (List ℕ) → Type 0
IsSized None = Unit {0}
IsSized (Some root) = length root ≡ 32

-- the root hash of a common subtree has 32 bytes
common_roots-sized : (known : Option (List ℕ)) (ps : List (List ℕ)) (r : Roots) → IsSized known → AreSized ps → common_roots known ps ≡ Some r → length r.second ≡ 32
common_roots-sized (Some root) [] r s sp h = let e : equal_roots root ≡ r = (cc) in sym (ap (λ (v : Roots). length v.second) e) ∙ s
common_roots-sized (Some root) (p ∷ ps) r s sp h = cc
common_roots-sized None [] r s sp h = cc
common_roots-sized None (p ∷ []) r s sp h = let e : equal_roots p ≡ r = (cc) in sym (ap (λ (v : Roots). length v.second) e) ∙ sp.0
common_roots-sized None (p ∷ q ∷ ps) r s sp h = cc

-- the longer tree's root hash has 32 bytes
consistency_roots-sized : (ps : List (List ℕ)) (first second : ℕ) (known : Option (List ℕ)) (r : Roots) → IsSized known → AreSized ps → consistency_roots first second known ps ≡ Some r → length r.second ≡ 32
consistency_roots-sized [] first second known r s sp is =
    elim (cases_eq first second) [
      | inl same ↦ common_roots-sized known [] r s sp (sym (consistency_roots-same first second known [] same) ∙ is)
      | inr other ↦ let no : None ≡ Some r = sym (consistency_roots-end first second known other) ∙ is in (cc)
    ]
consistency_roots-sized (p ∷ ps) first second known r s sp is =
    let k : ℕ = split_point second in
    elim (cases_eq first second) [
      | inl same ↦ common_roots-sized known (p ∷ ps) r s sp (sym (consistency_roots-same first second known (p ∷ ps) same) ∙ is)
      | inr other ↦ elim (cases_lt k first) [
        | inl at ↦ let found = preimage (in_right p) (consistency_roots (first - k) (second - k) None ps) r (sym (consistency_roots-right first second known p ps other at) ∙ is) in
            sym (ap (λ (v : Roots). length v.second) found.maps) ∙ length-sha256 _
        | inr at ↦ let found = preimage (in_left p) (consistency_roots first k known ps) r (sym (consistency_roots-left first second known p ps other at) ∙ is) in
            sym (ap (λ (v : Roots). length v.second) found.maps) ∙ length-sha256 _
      ]
    ]

-- what holds of a list of leaf hashes that is split at k: its root hash is the node of both parts, and S has all strings that are hashed
record Halves (S : List ℕ → Type 0) (hs : List (List ℕ)) (k : ℕ) : Type 0 where
  root : root_of hs ≡ node_hash (root_of (take k hs)) (root_of (drop k hs))
  top : S (node_input (root_of (take k hs)) (root_of (drop k hs)))
  left : Within (inputs_of (take k hs)) S
  right : Within (inputs_of (drop k hs)) S

-- a list that is split at its split point has that
halves : (S : List ℕ → Type 0) (hs : List (List ℕ)) (k : ℕ) → 1 < length hs → split_point (length hs) ≡ k → Within (inputs_of hs) S → Halves S hs k
halves S hs k many at all =
    let parts = inputs_top S hs many all in
    subst (Halves S hs) at (record { root = root-many hs many; top = parts.0; left = parts.1; right = parts.2 })

-- the first k and the next n - k are the first n
take-split : (k n : ℕ) (hs : List (List ℕ)) → k ≤ n → take k hs ++ take (n - k) (drop k hs) ≡ take n hs
take-split k n hs h = sym (take-add k (n - k) hs) ∙ ap (λ m. take m hs) (let e : k + (n - k) ≡ n = omega arith in e)

-- a list of leaf hashes with the first root hash is the beginning of every list of the second size with the second root hash
pub consistency_roots-sound : (S : List ℕ → Type 0) → Separates S → (ps : List (List ℕ)) → AreSized ps → (first second : ℕ) (known : Option (List ℕ)) (r : Roots) (ds es : List (List ℕ))
    → 0 < first → first ≤ second → IsSized known → length ds ≡ first → length es ≡ second → AreSized ds → AreSized es → consistency_roots first second known ps ≡ Some r
    → root_of ds ≡ r.first → root_of es ≡ r.second → Within (inputs_of ds) S → Within (inputs_of es) S → Within r.inputs S → ds ≡ take first es
consistency_roots-sound S sep [] sp first second known r ds es some longer sk ld le sd se is rd re id ie ir =
    elim (cases_eq first second) [
      | inl same ↦
          same_leaves S sep ds es (omega arith) sd se (rd ∙ common_roots-same known [] r (sym (consistency_roots-same first second known [] same) ∙ is) ∙ sym re) id ie
          ∙ sym (take_all first es (omega arith))
      | inr other ↦ let no : None ≡ Some r = sym (consistency_roots-end first second known other) ∙ is in (cc)
    ]
consistency_roots-sound S sep (p ∷ ps) sp first second known r ds es some longer sk ld le sd se is rd re id ie ir =
    let k : ℕ = split_point second in
    elim (cases_eq first second) [
      | inl same ↦
          same_leaves S sep ds es (omega arith) sd se (rd ∙ common_roots-same known (p ∷ ps) r (sym (consistency_roots-same first second known (p ∷ ps) same) ∙ is) ∙ sym re) id ie
          ∙ sym (take_all first es (omega arith))
      | inr other ↦
          let many : 1 < second = omega (arith, other) in
          let split = split-is second many in
          let below : k < second = split.below in
          let largest : second ≤ 2 * k = split.largest in
          let pos = split-pos second many in
          let te = length-take k es in
          let de = length-drop k es in
          let eh = halves S es k (omega arith) (ap split_point le) ie in
          elim (cases_lt k first) [
            | inl at ↦
                let found = preimage (in_right p) (consistency_roots (first - k) (second - k) None ps) r (sym (consistency_roots-right first second known p ps other at) ∙ is) in
                let r' : Roots = found.value in
                let ir' : Within (node_input p r'.first ∷ node_input p r'.second ∷ r'.inputs) S = λ x m. ir x (subst (λ (v : Roots). Has v.inputs x) found.maps m) in
                let td = length-take k ds in
                let dd = length-drop k ds in
                let at_d : split_point (length ds) ≡ k = ap split_point ld ∙ split-only first k (record { power = split.power; below = at; largest = omega arith }) in
                let dh = halves S ds k (omega (arith, pos)) at_d id in
                let d_parts = node_parts S sep (root_of (take k ds)) (root_of (drop k ds)) p r'.first
                (sized-root (take k ds) (sized-take k ds sd) ∙ sym sp.0) dh.top (ir' _ (inl refl)) (sym dh.root ∙ rd ∙ sym (ap (λ (v : Roots). v.first) found.maps)) in
                let e_parts = node_parts S sep (root_of (take k es)) (root_of (drop k es)) p r'.second
                (sized-root (take k es) (sized-take k es se) ∙ sym sp.0) eh.top (ir' _ (inr (inl refl))) (sym eh.root ∙ re ∙ sym (ap (λ (v : Roots). v.second) found.maps)) in
                let left : take k ds ≡ take k es = same_leaves S sep (take k ds) (take k es) (omega (arith, td, te)) (sized-take k ds sd) (sized-take k es se) (d_parts.0 ∙ sym e_parts.0) dh.left eh.left in
                let right : drop k ds ≡ take (first - k) (drop k es) = consistency_roots-sound S sep ps sp.1 (first - k) (second - k) None r' (drop k ds) (drop k es) (omega arith) (omega arith) tt (omega (arith, dd)) (omega (arith, de))
                (sized-drop k ds sd) (sized-drop k es se) found.is d_parts.1 e_parts.1 dh.right eh.right (λ x m. ir' x (inr (inr m))) in
                sym (take-append-drop k ds) ∙ ap₂ (λ (a b : List (List ℕ)). a ++ b) left right ∙ take-split k first es (omega arith)
            | inr at ↦
                let found = preimage (in_left p) (consistency_roots first k known ps) r (sym (consistency_roots-left first second known p ps other at) ∙ is) in
                let r' : Roots = found.value in
                let ir' : Within (node_input r'.second p ∷ r'.inputs) S = λ x m. ir x (subst (λ (v : Roots). Has v.inputs x) found.maps m) in
                let parts = node_parts S sep (root_of (take k es)) (root_of (drop k es)) r'.second p
                (sized-root (take k es) (sized-take k es se) ∙ sym (consistency_roots-sized ps first k known r' sk sp.1 found.is)) eh.top (ir' _ (inl refl)) (sym eh.root ∙ re ∙ sym (ap (λ (v : Roots). v.second) found.maps)) in
                let there : ds ≡ take first (take k es) = consistency_roots-sound S sep ps sp.1 first k known r' ds (take k es) some at sk ld (omega (arith, te, below)) sd (sized-take k es se)
                found.is (rd ∙ sym (ap (λ (v : Roots). v.first) found.maps)) parts.0 id eh.left (λ x m. ir' x (inr m)) in
                there ∙ take-take first k es at
          ]
    ]
