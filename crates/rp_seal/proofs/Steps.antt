-- The steps of proofs in slices, whose last hash is the one next to the root.
use Rattle.std.proofs.Common.{◌≡◌, inl, inr, Bool, true, false, cond, take_all, take-take, ℕ, zero, suc, ◌+◌, ◌-◌, ◌<◌, ◌≤◌, List, [], ◌∷◌, ◌++◌, length, take, drop, reverse, Option, Some, None, option_map, get_or, arith, refl, ap, ap₂, subst, sym, ◌∙◌, length-take, length-drop, get_or-take, get_or-drop}
use Rattle.std.proofs.lemmas.List.{map_push, reverse-append, nil_from_length, take-map, drop-map, length-map, drop-take}
use Rattle.sha2.specs.Sha256.{sha256}
use Rattle.rp_seal.specs.declared.hash.NodeHash.{NodeHash}
use Rattle.rp_seal.specs.Hash.{bytes_of, hashes_of}
use Rattle.rp_seal.specs.Merkle.{root_of, node_hash, split_point}
use Rattle.rp_seal.specs.Inclusion.{IsInclusionProof, inclusion_root}
use Rattle.rp_seal.specs.Consistency.{Roots, IsConsistencyProof, IsProofFromNonEmpty, IsConsistencyPath, in_left, in_right, root_pair, consistency_roots}
use Rattle.std.proofs.lemmas.Option.{some_pair_parts}
use Rattle.rp_seal.proofs.Splits.{split-is, split-only, split-pos, split-below}
use Rattle.rp_seal.proofs.ConsistencyPaths.{consistency_roots-same, consistency_roots-end, consistency_roots-left, consistency_roots-right}
use Rattle.rp_seal.proofs.Trees.{root-one, root-none, root-many}
use Rattle.rp_seal.proofs.InclusionPaths.{inclusion_root-end, inclusion_root-no_end, inclusion_root-few, inclusion_root-left, inclusion_root-right}

-- the last hash of a slice is the first hash of the reversed list
pub last_first : (proof below : List NodeHash) (sibling : NodeHash) → proof ≡ below ++ sibling ∷ [] → reverse (hashes_of proof) ≡ bytes_of sibling ∷ reverse (hashes_of below)
last_first proof below sibling e =
    ap (λ (v : List NodeHash). reverse (hashes_of v)) e ∙ ap reverse (map_push bytes_of below sibling) ∙ reverse-append (hashes_of below) (bytes_of sibling ∷ [])

-- an empty slice is an empty list of hashes
pub none_left : (proof : List NodeHash) → length proof ≡ 0 → reverse (hashes_of proof) ≡ []
none_left proof e = ap (λ (v : List NodeHash). reverse (hashes_of v)) (nil_from_length proof e)

-- `inclusion_root` of one leaf, with an empty slice
pub inclusion_step-end : (index size : ℕ) (leaf : List ℕ) (proof : List NodeHash) → length proof ≡ 0 → size ≡ 1 → inclusion_root index size leaf (reverse (hashes_of proof)) ≡ Some leaf
inclusion_step-end index size leaf proof e one = ap (inclusion_root index size leaf) (none_left proof e) ∙ inclusion_root-end index size leaf one

-- `inclusion_root` of no leaf or several, with an empty slice
pub inclusion_step-no_end : (index size : ℕ) (leaf : List ℕ) (proof : List NodeHash) → length proof ≡ 0 → (size ≡ 1 → ⊥) → inclusion_root index size leaf (reverse (hashes_of proof)) ≡ None
inclusion_step-no_end index size leaf proof e other = ap (inclusion_root index size leaf) (none_left proof e) ∙ inclusion_root-no_end index size leaf other

-- `inclusion_root` of at most one leaf, with a hash
pub inclusion_step-few : (index size : ℕ) (leaf : List ℕ) (proof below : List NodeHash) (sibling : NodeHash) → proof ≡ below ++ sibling ∷ [] → size ≤ 1
    → inclusion_root index size leaf (reverse (hashes_of proof)) ≡ None
inclusion_step-few index size leaf proof below sibling e few = ap (inclusion_root index size leaf) (last_first proof below sibling e) ∙ inclusion_root-few index size leaf (bytes_of sibling) (reverse (hashes_of below)) few

-- `inclusion_root` at an index in the left subtree
pub inclusion_step-left : (index size left_size : ℕ) (leaf : List ℕ) (proof below : List NodeHash) (sibling : NodeHash) → proof ≡ below ++ sibling ∷ [] → 1 < size → left_size ≡ split_point size → index < left_size
    → inclusion_root index size leaf (reverse (hashes_of proof)) ≡ option_map (λ h. node_hash h (bytes_of sibling)) (inclusion_root index left_size leaf (reverse (hashes_of below)))
inclusion_step-left index size left_size leaf proof below sibling e many is at =
    ap (inclusion_root index size leaf) (last_first proof below sibling e)
    ∙ inclusion_root-left index size leaf (bytes_of sibling) (reverse (hashes_of below)) many (omega arith)
    ∙ ap (λ k. option_map (λ h. node_hash h (bytes_of sibling)) (inclusion_root index k leaf (reverse (hashes_of below)))) (sym is)

-- `inclusion_root` at an index in the right subtree
pub inclusion_step-right : (index size left_size : ℕ) (leaf : List ℕ) (proof below : List NodeHash) (sibling : NodeHash) → proof ≡ below ++ sibling ∷ [] → 1 < size → left_size ≡ split_point size → left_size ≤ index
    → inclusion_root index size leaf (reverse (hashes_of proof)) ≡ option_map (λ h. node_hash (bytes_of sibling) h) (inclusion_root (index - left_size) (size - left_size) leaf (reverse (hashes_of below)))
inclusion_step-right index size left_size leaf proof below sibling e many is at =
    ap (inclusion_root index size leaf) (last_first proof below sibling e)
    ∙ inclusion_root-right index size leaf (bytes_of sibling) (reverse (hashes_of below)) many (omega arith)
    ∙ ap (λ k. option_map (λ h. node_hash (bytes_of sibling) h) (inclusion_root (index - k) (size - k) leaf (reverse (hashes_of below)))) (sym is)

-- the root hash over an empty slice
pub slice-none : (hs : List NodeHash) → length hs ≡ 0 → root_of (hashes_of hs) ≡ sha256 []
slice-none hs e = ap (λ (v : List NodeHash). root_of (hashes_of v)) (nil_from_length hs e) ∙ root-none

-- the root hash over a slice of one leaf hash
pub slice-one : (hs : List NodeHash) (only : NodeHash) → length hs ≡ 1 → only ≡ get_or hs 0 only → root_of (hashes_of hs) ≡ bytes_of only
slice-one [] only len is = absurd (omega arith)
slice-one (h ∷ []) only len is = root-one (bytes_of h) ∙ ap bytes_of (sym is)
slice-one (h ∷ g ∷ hs) only len is = absurd (omega arith)

-- the root hash over a slice that is split at its split point
pub slice-many : (hs : List NodeHash) (left_size : ℕ) → 1 < length hs → left_size ≡ split_point (length hs)
    → root_of (hashes_of hs) ≡ node_hash (root_of (hashes_of (take left_size hs))) (root_of (hashes_of (drop left_size hs)))
slice-many hs left_size many is =
    let len : length (hashes_of hs) ≡ length hs = length-map hs bytes_of in
    let at : split_point (length (hashes_of hs)) ≡ left_size = ap split_point len ∙ sym is in
    root-many (hashes_of hs) (omega (arith, len))
    ∙ ap (λ k. node_hash (root_of (take k (hashes_of hs))) (root_of (drop k (hashes_of hs)))) at
    ∙ ap₂ (λ (l r : List (List ℕ)). node_hash (root_of l) (root_of r)) (take-map bytes_of left_size hs) (drop-map bytes_of left_size hs)

-- the proof of inclusion of the only leaf is empty
pub inclusion_proof-one : (hs : List NodeHash) (index : ℕ) (proof : List NodeHash) → length hs ≡ 1 → index < length hs → proof ≡ []
    → IsInclusionProof (root_of (hashes_of hs)) (length hs) index (get_or (hashes_of hs) index []) (hashes_of proof)
inclusion_proof-one [] index proof len at e = absurd (omega arith)
inclusion_proof-one (h ∷ []) zero proof len at e = record {
  within = at;
  leads = ap (λ (v : List NodeHash). inclusion_root 0 1 (bytes_of h) (reverse (hashes_of v))) e ∙ inclusion_root-end 0 1 (bytes_of h) refl ∙ ap (λ (v : List ℕ). Some v) (sym (root-one (bytes_of h)));
}
inclusion_proof-one (h ∷ []) (suc index) proof len at e = absurd (omega arith)
inclusion_proof-one (h ∷ g ∷ hs) index proof len at e = absurd (omega arith)

-- a proof in the left subtree, with the root hash of the right subtree appended, is a proof in the tree
pub inclusion_proof-left : (hs proof below : List NodeHash) (index left_size : ℕ) (sibling : NodeHash) → 1 < length hs → left_size ≡ split_point (length hs) → index < left_size
    → proof ≡ below ++ sibling ∷ [] → bytes_of sibling ≡ root_of (hashes_of (drop left_size hs))
    → IsInclusionProof (root_of (hashes_of (take left_size hs))) (length (take left_size hs)) index (get_or (hashes_of (take left_size hs)) index []) (hashes_of below)
    → IsInclusionProof (root_of (hashes_of hs)) (length hs) index (get_or (hashes_of hs) index []) (hashes_of proof)
inclusion_proof-left hs proof below index left_size sibling many is at e root ok =
    let b = split-below (length hs) many in
    let t = length-take left_size hs in
    let len : length (take left_size hs) ≡ left_size = omega (arith, t, b, is) in
    let leaf : get_or (hashes_of (take left_size hs)) index [] ≡ get_or (hashes_of hs) index [] =
    ap (λ (v : List (List ℕ)). get_or v index []) (sym (take-map bytes_of left_size hs)) ∙ get_or-take left_size (hashes_of hs) index [] at in
    let inner : inclusion_root index left_size (get_or (hashes_of hs) index []) (reverse (hashes_of below)) ≡ Some (root_of (hashes_of (take left_size hs))) =
    sym (ap₂ (λ (n : ℕ) (l : List ℕ). inclusion_root index n l (reverse (hashes_of below))) len leaf) ∙ ok.leads in
    record {
      within = omega (arith, b, is);
      leads = inclusion_step-left index (length hs) left_size (get_or (hashes_of hs) index []) proof below sibling e many is at
          ∙ ap (option_map (λ h. node_hash h (bytes_of sibling))) inner
          ∙ ap (λ (v : List ℕ). Some (node_hash (root_of (hashes_of (take left_size hs))) v)) root
          ∙ ap (λ (v : List ℕ). Some v) (sym (slice-many hs left_size many is));
    }

-- a proof in the right subtree, with the root hash of the left subtree appended, is a proof in the tree
pub inclusion_proof-right : (hs proof below : List NodeHash) (index left_size : ℕ) (sibling : NodeHash) → 1 < length hs → left_size ≡ split_point (length hs) → left_size ≤ index → index < length hs
    → proof ≡ below ++ sibling ∷ [] → bytes_of sibling ≡ root_of (hashes_of (take left_size hs))
    → IsInclusionProof (root_of (hashes_of (drop left_size hs))) (length (drop left_size hs)) (index - left_size) (get_or (hashes_of (drop left_size hs)) (index - left_size) []) (hashes_of below)
    → IsInclusionProof (root_of (hashes_of hs)) (length hs) index (get_or (hashes_of hs) index []) (hashes_of proof)
inclusion_proof-right hs proof below index left_size sibling many is at within e root ok =
    let b = split-below (length hs) many in
    let d = length-drop left_size hs in
    let again : left_size + (index - left_size) ≡ index = omega arith in
    let leaf : get_or (hashes_of (drop left_size hs)) (index - left_size) [] ≡ get_or (hashes_of hs) index [] =
    ap (λ (v : List (List ℕ)). get_or v (index - left_size) []) (sym (drop-map bytes_of left_size hs)) ∙ get_or-drop left_size (hashes_of hs) (index - left_size) [] ∙ ap (λ j. get_or (hashes_of hs) j []) again in
    let inner : inclusion_root (index - left_size) (length hs - left_size) (get_or (hashes_of hs) index []) (reverse (hashes_of below)) ≡ Some (root_of (hashes_of (drop left_size hs))) =
    sym (ap₂ (λ (n : ℕ) (l : List ℕ). inclusion_root (index - left_size) n l (reverse (hashes_of below))) d leaf) ∙ ok.leads in
    record {
      within = within;
      leads = inclusion_step-right index (length hs) left_size (get_or (hashes_of hs) index []) proof below sibling e many is at
          ∙ ap (option_map (λ h. node_hash (bytes_of sibling) h)) inner
          ∙ ap (λ (v : List ℕ). Some (node_hash v (root_of (hashes_of (drop left_size hs))))) root
          ∙ ap (λ (v : List ℕ). Some v) (sym (slice-many hs left_size many is));
    }

-- `consistency_roots` of different sizes, with an empty slice
pub consistency_step-end : (first second : ℕ) (known : Option (List ℕ)) (proof : List NodeHash) → length proof ≡ 0 → (first ≡ second → ⊥)
    → consistency_roots first second known (reverse (hashes_of proof)) ≡ None
consistency_step-end first second known proof e other = ap (consistency_roots first second known) (none_left proof e) ∙ consistency_roots-end first second known other

-- `consistency_roots`, if the shorter tree ends in the left subtree
pub consistency_step-left : (first second left_size : ℕ) (known : Option (List ℕ)) (proof below : List NodeHash) (sibling : NodeHash) → proof ≡ below ++ sibling ∷ []
    → (first ≡ second → ⊥) → left_size ≡ split_point second → first ≤ left_size
    → consistency_roots first second known (reverse (hashes_of proof)) ≡ option_map (in_left (bytes_of sibling)) (consistency_roots first left_size known (reverse (hashes_of below)))
consistency_step-left first second left_size known proof below sibling e other is at =
    ap (consistency_roots first second known) (last_first proof below sibling e)
    ∙ consistency_roots-left first second known (bytes_of sibling) (reverse (hashes_of below)) other (omega arith)
    ∙ ap (λ k. option_map (in_left (bytes_of sibling)) (consistency_roots first k known (reverse (hashes_of below)))) (sym is)

-- `consistency_roots`, if the shorter tree ends in the right subtree
pub consistency_step-right : (first second left_size : ℕ) (known : Option (List ℕ)) (proof below : List NodeHash) (sibling : NodeHash) → proof ≡ below ++ sibling ∷ []
    → (first ≡ second → ⊥) → left_size ≡ split_point second → left_size < first
    → consistency_roots first second known (reverse (hashes_of proof)) ≡ option_map (in_right (bytes_of sibling)) (consistency_roots (first - left_size) (second - left_size) None (reverse (hashes_of below)))
consistency_step-right first second left_size known proof below sibling e other is at =
    ap (consistency_roots first second known) (last_first proof below sibling e)
    ∙ consistency_roots-right first second known (bytes_of sibling) (reverse (hashes_of below)) other (omega arith)
    ∙ ap (λ k. option_map (in_right (bytes_of sibling)) (consistency_roots (first - k) (second - k) None (reverse (hashes_of below)))) (sym is)

-- no root hashes, one level up, are none
pub root_pair-none : (f : Roots → Roots) (t : Option Roots) → None ≡ option_map root_pair t → option_map root_pair (option_map f t) ≡ None
root_pair-none f None e = refl
root_pair-none f (Some r) e = cc

-- a pair of root hashes one level up, if the shorter tree ends in the left subtree
pub root_pair-left : (b l w n : List ℕ) (t : Option Roots) → Some (l, w) ≡ option_map root_pair t → n ≡ node_hash w b → option_map root_pair (option_map (in_left b) t) ≡ Some (l, n)
root_pair-left b l w n None e is = cc
root_pair-left b l w n (Some r) e is =
    let parts = some_pair_parts l r.first w r.second e in
    let pair : List ℕ → List ℕ → Option (List ℕ × List ℕ) = λ x y. Some (x, y) in
    ap₂ pair (sym parts.0) (ap (λ v. node_hash v b) (sym parts.1) ∙ sym is)

-- a pair of root hashes one level up, if the shorter tree ends in the right subtree
pub root_pair-right : (b l w m n : List ℕ) (t : Option Roots) → Some (l, w) ≡ option_map root_pair t → m ≡ node_hash b l → n ≡ node_hash b w
    → option_map root_pair (option_map (in_right b) t) ≡ Some (m, n)
root_pair-right b l w m n None e is_m is_n = cc
root_pair-right b l w m n (Some r) e is_m is_n =
    let parts = some_pair_parts l r.first w r.second e in
    let pair : List ℕ → List ℕ → Option (List ℕ × List ℕ) = λ x y. Some (x, y) in
    ap₂ pair (ap (λ v. node_hash b v) (sym parts.0) ∙ sym is_m) (ap (λ v. node_hash b v) (sym parts.1) ∙ sym is_n)

-- what makes a proof from an empty tree
pub from_empty-intro : (first : ℕ) (fr : List ℕ) (second : ℕ) (sr : List ℕ) (proof : List (List ℕ)) → first ≡ 0
    → (proof ≡ []) × (fr ≡ sha256 []) × (second ≡ 0 → sr ≡ sha256 []) → IsConsistencyProof first fr second sr proof
from_empty-intro first fr second sr proof none (bare, root, last) = inr (record { none = none; root = root; second_none = last; bare = bare })

-- what a proof from an empty tree has
pub from_empty-elim : (first : ℕ) (fr : List ℕ) (second : ℕ) (sr : List ℕ) (proof : List (List ℕ)) → first ≡ 0
    → IsConsistencyProof first fr second sr proof → (proof ≡ []) × (fr ≡ sha256 []) × (second ≡ 0 → sr ≡ sha256 [])
from_empty-elim first fr second sr proof none (inl is) = absurd (let some = is.some in omega (arith, some))
from_empty-elim first fr second sr proof none (inr is) = (is.bare, is.root, is.second_none)

-- a proof from a tree with a leaf is one of the first kind
pub from_non_empty-elim : (first : ℕ) (fr : List ℕ) (second : ℕ) (sr : List ℕ) (proof : List (List ℕ)) → (first ≡ 0 → ⊥)
    → IsConsistencyProof first fr second sr proof → IsProofFromNonEmpty first fr second sr proof
from_non_empty-elim first fr second sr proof some (inl is) = is
from_non_empty-elim first fr second sr proof some (inr is) = absurd (some is.none)

-- the proof from a tree to itself is empty, if its root hash is known
pub consistency_proof-known : (hs : List NodeHash) (first : ℕ) (proof : List NodeHash) → first ≡ length hs → proof ≡ [] → IsConsistencyPath hs first true proof
consistency_proof-known hs first proof same e =
    let all : root_of (hashes_of (take first hs)) ≡ root_of (hashes_of hs) = ap (λ (v : List NodeHash). root_of (hashes_of v)) (take_all first hs (omega arith)) in
    let pair : List ℕ → List ℕ → Option (List ℕ × List ℕ) = λ x y. Some (x, y) in
    ap (option_map root_pair) (ap (λ (v : List NodeHash). consistency_roots first (length hs) (Some (root_of (hashes_of (take first hs)))) (reverse (hashes_of v))) e
    ∙ consistency_roots-same first (length hs) (Some (root_of (hashes_of (take first hs)))) [] same)
    ∙ ap (pair (root_of (hashes_of (take first hs)))) all

-- the proof from a tree to itself is its root hash, if that is not known
pub consistency_proof-new : (hs : List NodeHash) (first : ℕ) (proof : List NodeHash) (root : NodeHash) → first ≡ length hs → proof ≡ root ∷ [] → bytes_of root ≡ root_of (hashes_of hs)
    → IsConsistencyPath hs first false proof
consistency_proof-new hs first proof root same e is =
    let all : root_of (hashes_of (take first hs)) ≡ root_of (hashes_of hs) = ap (λ (v : List NodeHash). root_of (hashes_of v)) (take_all first hs (omega arith)) in
    let pair : List ℕ → List ℕ → Option (List ℕ × List ℕ) = λ x y. Some (x, y) in
    ap (option_map root_pair) (ap (λ (v : List NodeHash). consistency_roots first (length hs) None (reverse (hashes_of v))) e
    ∙ consistency_roots-same first (length hs) None (bytes_of root ∷ []) same)
    ∙ ap₂ pair (is ∙ sym all) is

-- a proof in the left subtree, with the root hash of the right subtree appended, is a proof in the tree
pub consistency_proof-left : (hs proof below : List NodeHash) (first left_size : ℕ) (is_known : Bool) (sibling : NodeHash) → 1 < length hs → left_size ≡ split_point (length hs) → (first ≡ length hs → ⊥) → first ≤ left_size
    → proof ≡ below ++ sibling ∷ [] → bytes_of sibling ≡ root_of (hashes_of (drop left_size hs)) → IsConsistencyPath (take left_size hs) first is_known below → IsConsistencyPath hs first is_known proof
consistency_proof-left hs proof below first left_size is_known sibling many is other at e root ok =
    let b = split-below (length hs) many in
    let t = length-take left_size hs in
    let len : length (take left_size hs) ≡ left_size = omega (arith, t, b, is) in
    let same_first : take first (take left_size hs) ≡ take first hs = take-take first left_size hs at in
    let known : List NodeHash → Option (List ℕ) = λ (v : List NodeHash). cond is_known (Some (root_of (hashes_of v))) None in
    let inner : Some (root_of (hashes_of (take first hs)), root_of (hashes_of (take left_size hs))) ≡ option_map root_pair (consistency_roots first left_size (known (take first hs)) (reverse (hashes_of below))) =
    sym (subst (λ (v : List NodeHash). option_map root_pair (consistency_roots first left_size (known v) (reverse (hashes_of below))) ≡ Some (root_of (hashes_of v), root_of (hashes_of (take left_size hs)))) same_first
    (subst (λ n. option_map root_pair (consistency_roots first n (known (take first (take left_size hs))) (reverse (hashes_of below))) ≡ Some (root_of (hashes_of (take first (take left_size hs))), root_of (hashes_of (take left_size hs)))) len ok)) in
    ap (option_map root_pair) (consistency_step-left first (length hs) left_size (known (take first hs)) proof below sibling e other is at)
    ∙ root_pair-left (bytes_of sibling) (root_of (hashes_of (take first hs))) (root_of (hashes_of (take left_size hs))) (root_of (hashes_of hs)) _ inner
    (slice-many hs left_size many is ∙ ap (λ v. node_hash (root_of (hashes_of (take left_size hs))) v) (sym root))

-- a proof in the right subtree, with the root hash of the left subtree appended, is a proof in the tree
pub consistency_proof-right : (hs proof below : List NodeHash) (first left_size : ℕ) (is_known : Bool) (sibling : NodeHash) → 1 < length hs → left_size ≡ split_point (length hs) → (first ≡ length hs → ⊥) → left_size < first → first ≤ length hs
    → proof ≡ below ++ sibling ∷ [] → bytes_of sibling ≡ root_of (hashes_of (take left_size hs)) → IsConsistencyPath (drop left_size hs) (first - left_size) false below → IsConsistencyPath hs first is_known proof
consistency_proof-right hs proof below first left_size is_known sibling many is other at longer e root ok =
    let b = split-below (length hs) many in
    let split = split-is (length hs) many in
    let largest = split.largest in
    let pos = split-pos (length hs) many in
    let d = length-drop left_size hs in
    let tf = length-take first hs in
    let short : length (take first hs) ≡ first = omega (arith, tf, longer) in
    let at_short : left_size ≡ split_point (length (take first hs)) =
    is ∙ sym (split-only first (split_point (length hs)) (record { power = split.power; below = omega (arith, is, at); largest = omega (arith, largest, longer) })) ∙ ap split_point (sym short) in
    let left : take left_size (take first hs) ≡ take left_size hs = take-take left_size first hs (omega arith) in
    let again : left_size + (first - left_size) ≡ first = omega arith in
    let right : drop left_size (take first hs) ≡ take (first - left_size) (drop left_size hs) = ap (λ m. drop left_size (take m hs)) (sym again) ∙ drop-take left_size (first - left_size) hs in
    let first_root : root_of (hashes_of (take first hs)) ≡ node_hash (bytes_of sibling) (root_of (hashes_of (take (first - left_size) (drop left_size hs)))) =
    slice-many (take first hs) left_size (omega (arith, short, pos, is, at)) at_short
    ∙ ap₂ (λ (l r : List NodeHash). node_hash (root_of (hashes_of l)) (root_of (hashes_of r))) left right
    ∙ ap (λ v. node_hash v (root_of (hashes_of (take (first - left_size) (drop left_size hs))))) (sym root) in
    let inner : Some (root_of (hashes_of (take (first - left_size) (drop left_size hs))), root_of (hashes_of (drop left_size hs))) ≡ option_map root_pair (consistency_roots (first - left_size) (length hs - left_size) None (reverse (hashes_of below))) =
    sym (subst (λ n. option_map root_pair (consistency_roots (first - left_size) n None (reverse (hashes_of below))) ≡ Some (root_of (hashes_of (take (first - left_size) (drop left_size hs))), root_of (hashes_of (drop left_size hs)))) d ok) in
    ap (option_map root_pair) (consistency_step-right first (length hs) left_size (cond is_known (Some (root_of (hashes_of (take first hs)))) None) proof below sibling e other is at)
    ∙ root_pair-right (bytes_of sibling) (root_of (hashes_of (take (first - left_size) (drop left_size hs)))) (root_of (hashes_of (drop left_size hs))) (root_of (hashes_of (take first hs))) (root_of (hashes_of hs)) _ inner
    first_root (slice-many hs left_size many is ∙ ap (λ v. node_hash v (root_of (hashes_of (drop left_size hs)))) (sym root))
