-- The tree over a list of leaf hashes, by its three equations.
use Rattle.std.proofs.Common.{◌≡◌, ℕ, zero, suc, ◌+◌, ◌<◌, ◌≤◌, List, [], ◌∷◌, ◌++◌, length, take, drop, arith, refl, ap, ap₂, ◌∙◌, length-append, length-take, length-drop, take_at, drop_at}
use Rattle.rp_seal.specs.Merkle.{IsSplitPoint, node, split_point, tree_within, tree_of, hash_of, inputs_in, root_of, inputs_of, node_hash, node_input}
use Rattle.rp_seal.proofs.Splits.{split-only, split-pos, split-below, power-pos}
use Rattle.sha2.specs.Sha256.{sha256}

-- the tree is the same whatever number of levels bounds it, if that is at least the length
enough : (f g : ℕ) (hs : List (List ℕ)) → length hs ≤ f → length hs ≤ g → tree_within f hs ≡ tree_within g hs
unfolding tree_within
enough zero zero hs a b = refl
enough zero (suc g) [] a b = refl
enough zero (suc g) (h ∷ hs) a b = absurd (omega arith)
enough (suc f) zero [] a b = refl
enough (suc f) zero (h ∷ hs) a b = absurd (omega arith)
enough (suc f) (suc g) [] a b = refl
enough (suc f) (suc g) (h ∷ []) a b = refl
enough (suc f) (suc g) (h ∷ i ∷ hs) a b =
    let all : List (List ℕ) = h ∷ i ∷ hs in
    let n : ℕ = length all in
    let many : 1 < n = omega arith in
    let k : ℕ = split_point n in
    let below = split-below n many in
    let pos = split-pos n many in
    let left = length-take k all in
    let right = length-drop k all in
    ap₂ node
    (enough f g (take k all) (omega (arith, left, below)) (omega (arith, left, below)))
    (enough f g (drop k all) (omega (arith, right, below, pos)) (omega (arith, right, below, pos)))

-- the tree over two leaf hashes or more is the node of both parts
tree-two : (h i : List ℕ) (hs : List (List ℕ)) → tree_of (h ∷ i ∷ hs) ≡
    node (tree_of (take (split_point (length (h ∷ i ∷ hs))) (h ∷ i ∷ hs))) (tree_of (drop (split_point (length (h ∷ i ∷ hs))) (h ∷ i ∷ hs)))
unfolding tree_of tree_within
tree-two h i hs =
    let all : List (List ℕ) = h ∷ i ∷ hs in
    let n : ℕ = length all in
    let many : 1 < n = omega arith in
    let k : ℕ = split_point n in
    let below = split-below n many in
    let pos = split-pos n many in
    let left = length-take k all in
    let right = length-drop k all in
    ap₂ node
    (enough (suc (length hs)) (length (take k all)) (take k all) (omega (arith, left, below)) (omega arith))
    (enough (suc (length hs)) (length (drop k all)) (drop k all) (omega (arith, right, below, pos)) (omega arith))

-- the tree over more than one leaf hash is the node of both parts
pub tree-many : (hs : List (List ℕ)) → 1 < length hs → tree_of hs ≡ node (tree_of (take (split_point (length hs)) hs)) (tree_of (drop (split_point (length hs)) hs))
tree-many [] h = absurd (omega arith)
tree-many (x ∷ []) h = absurd (omega arith)
tree-many (x ∷ y ∷ hs) h = tree-two x y hs

-- the root hash over no leaf hash
pub root-none : root_of [] ≡ sha256 []
unfolding root_of tree_of tree_within
root-none = refl

-- the root hash over one leaf hash
pub root-one : (h : List ℕ) → root_of (h ∷ []) ≡ h
unfolding root_of tree_of tree_within
root-one h = refl

-- the root hash over more than one leaf hash
pub root-many : (hs : List (List ℕ)) → 1 < length hs → root_of hs ≡ node_hash (root_of (take (split_point (length hs)) hs)) (root_of (drop (split_point (length hs)) hs))
unfolding root_of
root-many hs h = ap hash_of (tree-many hs h)

-- the strings that are hashed over more than one leaf hash
pub inputs-many : (hs : List (List ℕ)) → 1 < length hs → inputs_of hs ≡
    node_input (root_of (take (split_point (length hs)) hs)) (root_of (drop (split_point (length hs)) hs))
    ∷ inputs_of (take (split_point (length hs)) hs) ++ inputs_of (drop (split_point (length hs)) hs)
unfolding root_of inputs_of
inputs-many hs h = ap inputs_in (tree-many hs h)

-- the root hash over two lists of which the first ends at the split point is the node of both root hashes
pub root-join : (ls rs : List (List ℕ)) → IsSplitPoint (length ls + length rs) (length ls) → root_of (ls ++ rs) ≡ node_hash (root_of ls) (root_of rs)
root-join ls rs is =
    let all = length-append ls rs in
    let pos = power-pos (length ls) is.power in
    let below = is.below in
    let at : split_point (length (ls ++ rs)) ≡ length ls = ap split_point all ∙ split-only (length ls + length rs) (length ls) is in
    root-many (ls ++ rs) (omega (arith, all, pos, below))
    ∙ ap₂ node_hash
    (ap root_of (ap (λ k. take k (ls ++ rs)) at ∙ take_at ls rs (length ls) refl))
    (ap root_of (ap (λ k. drop k (ls ++ rs)) at ∙ drop_at ls rs (length ls) refl))
