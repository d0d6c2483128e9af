-- The perfect subtrees of a compact tree, while a leaf is appended, and the root hash over them.
use Rattle.std.proofs.Common.{◌≡◌, ℕ, ◌+◌, ◌*◌, ◌<◌, ◌≤◌, cond, List, [], ◌∷◌, ◌++◌, length, arith, refl, ap, ap₂, subst, sym, ◌∙◌, inl, inr, append_assoc, length-append, map, reverse}
use Rattle.std.proofs.lemmas.Bool.{cases_eq, eq-eqb, ne_eqb}
use Rattle.std.proofs.lemmas.List.{map_push, reverse-append}
use Rattle.std.proofs.lemmas.List.Sums.{sum_by-cons}
use Rattle.rp_seal.specs.declared.peak.Peak.{Peak}
use Rattle.rp_seal.specs.Merkle.{IsPowerOfTwo, IsSplitPoint, node_hash, root_of}
use Rattle.rp_seal.specs.Peaks.{Subtree, subtree_of, subtrees_of, total_size, IsSubtree, IsAbove, AreSubtrees, joined_subtree, with_subtree, root_over}
use Rattle.rp_seal.proofs.Splits.{power-one, power-double, power-pos, power-gap}
use Rattle.rp_seal.proofs.Trees.{root-join, root-one}

-- the first subtree, if there is one, has at least so many leaves
abbrev AtLeast : ℕ → List Subtree → Type 0
AtLeast size [] = Unit {0}
AtLeast size (q ∷ qs) = size ≤ q.size

-- the subtree after q, if there is one, has at least twice as many leaves as q
doubled_next : (q : Subtree) (qs : List Subtree) → IsPowerOfTwo q.size → IsAbove q.size qs → (hs : List (List ℕ)) → AreSubtrees qs hs → AtLeast (2 * q.size) qs
doubled_next q [] power above hs are = tt
doubled_next q (r ∷ rs) power above hs are = let part = are.3 in power-gap q.size r.size power part.power above

-- a subtree of the size of p is joined with p
with-same : (q p : Subtree) (qs : List Subtree) → q.size ≡ p.size → with_subtree (q ∷ qs) p ≡ with_subtree qs (joined_subtree q p)
with-same q p qs h = ap (λ b. cond b (with_subtree qs (joined_subtree q p)) (p ∷ q ∷ qs)) (eq-eqb q.size p.size h)

-- a subtree of another size stays
with-other : (q p : Subtree) (qs : List Subtree) → (q.size ≡ p.size → ⊥) → with_subtree (q ∷ qs) p ≡ p ∷ q ∷ qs
with-other q p qs h = ap (λ b. cond b (with_subtree qs (joined_subtree q p)) (p ∷ q ∷ qs)) (ne_eqb q.size p.size h)

-- subtrees of hs with one more subtree, over own and not larger than the others, are subtrees of hs ++ own
pub with_subtree-are : (ps : List Subtree) (hs own : List (List ℕ)) (p : Subtree) → AreSubtrees ps hs → IsSubtree p own → AtLeast p.size ps → AreSubtrees (with_subtree ps p) (hs ++ own)
with_subtree-are [] hs own p are part least = (hs, own, refl, part, tt, are)
with_subtree-are (q ∷ qs) hs own p are part least =
    let before : List (List ℕ) = are.0 in
    let theirs : List (List ℕ) = are.1 in
    let left = are.3 in
    elim (cases_eq q.size p.size) [
      | inl same ↦
          let ls : length theirs ≡ q.size = left.size in
          let lo : length own ≡ p.size = part.size in
          let pos = power-pos p.size part.power in
          let both = length-append theirs own in
          let split : IsSplitPoint (length theirs + length own) (length theirs) =
          record { power = subst IsPowerOfTwo (sym ls) left.power; below = omega (arith, ls, lo, same, pos); largest = omega (arith, ls, lo, same) } in
          let join : IsSubtree (joined_subtree q p) (theirs ++ own) =
          record { size = omega (arith, both, ls, lo, same); power = power-double p.size part.power; root = ap₂ node_hash left.root part.root ∙ sym (root-join theirs own split) } in
          let next : AtLeast (2 * p.size) qs = subst (λ n. AtLeast (2 * n) qs) same (doubled_next q qs left.power are.4 before are.5) in
          let all : AreSubtrees (with_subtree qs (joined_subtree q p)) (before ++ (theirs ++ own)) = with_subtree-are qs before (theirs ++ own) (joined_subtree q p) are.5 join next in
          subst (λ v. AreSubtrees v (hs ++ own)) (sym (with-same q p qs same))
          (subst (AreSubtrees (with_subtree qs (joined_subtree q p))) (sym (append_assoc before theirs own) ∙ ap (λ v. v ++ own) (sym are.2)) all)
      | inr other ↦
          subst (λ v. AreSubtrees v (hs ++ own)) (sym (with-other q p qs other))
          (hs, own, refl, part, (let below : p.size < q.size = omega (arith, other) in below), are)
    ]

-- one leaf hash is a subtree of size 1
pub one_subtree : (h : List ℕ) → IsSubtree (record { root = h; size = 1 }) (h ∷ [])
one_subtree h = record { size = refl; power = power-one; root = sym (root-one h) }

-- each subtree has at least one leaf
pub one-least : (ps : List Subtree) (hs : List (List ℕ)) → AreSubtrees ps hs → AtLeast 1 ps
one-least [] hs are = tt
one-least (q ∷ qs) hs are = let part = are.3 in power-pos q.size part.power

-- the root hash over subtrees of hs and further leaves own is the root hash over hs ++ own
pub root_over-are : (ps : List Subtree) (hs own : List (List ℕ)) (root : List ℕ) (n : ℕ) → AreSubtrees ps hs → root ≡ root_of own → 0 < length own → length own ≤ n → AtLeast n ps → root_over ps root ≡ root_of (hs ++ own)
root_over-are [] hs own root n are is pos le least = is ∙ ap (λ (v : List (List ℕ)). root_of (v ++ own)) (sym are)
root_over-are (q ∷ qs) hs own root n are is pos le least =
    let before : List (List ℕ) = are.0 in
    let theirs : List (List ℕ) = are.1 in
    let left = are.3 in
    let ls : length theirs ≡ q.size = left.size in
    let both = length-append theirs own in
    let split : IsSplitPoint (length theirs + length own) (length theirs) =
    record { power = subst IsPowerOfTwo (sym ls) left.power; below = omega (arith, ls, pos); largest = omega (arith, ls, le, least) } in
    let join : node_hash q.root root ≡ root_of (theirs ++ own) = ap₂ node_hash left.root is ∙ sym (root-join theirs own split) in
    root_over-are qs before (theirs ++ own) (node_hash q.root root) (2 * q.size) are.5 join (omega (arith, both, pos)) (omega (arith, both, ls, le, least)) (doubled_next q qs left.power are.4 before are.5)
    ∙ ap root_of (sym (append_assoc before theirs own) ∙ ap (λ v. v ++ own) (sym are.2))

-- the root hash over all subtrees is that over all leaf hashes
pub root_over-all : (p : Subtree) (ps : List Subtree) (hs : List (List ℕ)) → AreSubtrees (p ∷ ps) hs → root_over ps p.root ≡ root_of hs
root_over-all p ps hs are =
    let part = are.3 in
    let size : length are.1 ≡ p.size = part.size in
    let pos = power-pos p.size part.power in
    root_over-are ps are.0 are.1 p.root p.size are.5 part.root (omega (arith, size, pos)) (omega (arith, size)) (least ps p.size are.4)
    ∙ ap root_of (sym are.2)
  where
    least : (ps : List Subtree) (n : ℕ) → IsAbove n ps → AtLeast n ps
    least [] n h = tt
    least (q ∷ qs) n h = omega arith

-- the last peak of a slice is the first subtree
pub subtrees-last : (peaks before : List Peak) (last : Peak) → peaks ≡ before ++ last ∷ [] → subtrees_of peaks ≡ subtree_of last ∷ subtrees_of before
subtrees-last peaks before last e =
    ap subtrees_of e ∙ ap reverse (map_push subtree_of before last) ∙ reverse-append (map subtree_of before) (subtree_of last ∷ [])

-- the number of leaves of all subtrees
abbrev length_within : List Subtree → ℕ
length_within [] = 0
length_within (p ∷ ps) = p.size + length_within ps

-- the number of leaves of two lists of subtrees is the sum of both
within-append : (ps qs : List Subtree) → length_within (ps ++ qs) ≡ length_within ps + length_within qs
within-append [] qs = omega arith
within-append (p ∷ ps) qs = let e = within-append ps qs in omega (arith, e)

-- the number of leaves of all subtrees is the sum of the sizes of the peaks
within-subtrees : (peaks : List Peak) → length_within (subtrees_of peaks) ≡ total_size peaks
within-subtrees [] = refl
within-subtrees (p ∷ ps) =
    let front : length_within (subtrees_of (p ∷ ps)) ≡ length_within (subtrees_of ps ++ subtree_of p ∷ []) = ap length_within (reverse-append (subtree_of p ∷ []) (map subtree_of ps)) in
    let split : length_within (subtrees_of ps ++ subtree_of p ∷ []) ≡ length_within (subtrees_of ps) + (p.size + 0) = within-append (subtrees_of ps) (subtree_of p ∷ []) in
    let total : total_size (p ∷ ps) ≡ p.size + total_size ps = sum_by-cons (λ (q : Peak). q.size) p ps in
    let rest = within-subtrees ps in
    front ∙ split ∙ (let swap : length_within (subtrees_of ps) + (p.size + 0) ≡ p.size + total_size ps = omega (arith, rest) in swap) ∙ sym total

-- subtrees of hs have as many leaves as hs has hashes
within-are : (ps : List Subtree) (hs : List (List ℕ)) → AreSubtrees ps hs → length hs ≡ length_within ps
within-are [] hs are = ap length are
within-are (p ∷ ps) hs are =
    let part = are.3 in
    let size = part.size in
    let rest = within-are ps are.0 are.5 in
    let whole = ap length are.2 in
    let both = length-append are.0 are.1 in
    omega (arith, size, rest, whole, both)

-- peaks over hs have as many leaves as hs has hashes
pub subtrees-length : (peaks : List Peak) (hs : List (List ℕ)) → AreSubtrees (subtrees_of peaks) hs → length hs ≡ total_size peaks
subtrees-length peaks hs are = within-are (subtrees_of peaks) hs are ∙ within-subtrees peaks
