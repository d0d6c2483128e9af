-- The perfect subtrees of which a compact tree has the root hashes. Their sizes are powers of two, and each is below the size before it.
use Rattle.std.specs.Prelude.{◌≡◌, ℕ, ◌*◌, ◌<◌, Bool, false, List, [], ◌∷◌, ◌++◌, length, map, reverse, sum_by, nat_eq, if◌then◌else◌}
use Rattle.rp_seal.specs.declared.peak.Peak.{Peak}
use Rattle.rp_seal.specs.Merkle.{IsPowerOfTwo, node_hash, root_of}

-- the root hash of a subtree, and the number of its leaves
pub record Subtree : Type 0 where
  pub root : List ℕ
  pub size : ℕ

-- the bytes of a peak's root hash, and its size
abbrev pub subtree_of : Peak → Subtree
subtree_of p = record { root = p.root.bytes; size = p.size }

-- the subtrees of a list of peaks, the last one first
abbrev pub subtrees_of : List Peak → List Subtree
subtrees_of ps = reverse (map subtree_of ps)

-- the number of leaves of all peaks
abbrev pub total_size : List Peak → ℕ
total_size ps = sum_by (λ p. p.size) ps

-- a subtree has exactly these leaf hashes, and their number is a power of two
pub record IsSubtree (p : Subtree) (hashes : List (List ℕ)) : Type 0 where
  pub size : length hashes ≡ p.size
  pub power : IsPowerOfTwo p.size
  pub root : p.root ≡ root_of hashes

-- the first subtree, if there is one, has more than `size` leaves
abbrev pub IsAbove : ℕ → List Subtree → Type 0
IsAbove size [] = Unit {0}
IsAbove size (q ∷ qs) = size < q.size

-- subtrees, the last one first, have exactly these leaf hashes, and each is smaller than the one before it
abbrev pub AreSubtrees : List Subtree → List (List ℕ) → Type 0
AreSubtrees [] hashes = hashes ≡ []
AreSubtrees (p ∷ ps) hashes = (before : List (List ℕ)) × (own : List (List ℕ)) × (hashes ≡ before ++ own) × IsSubtree p own × IsAbove p.size ps × AreSubtrees ps before

-- the first subtree has `size` leaves
abbrev pub has_size : List Subtree → ℕ → Bool
has_size [] size = false
has_size (q ∷ qs) size = nat_eq q.size size

-- the subtree of two subtrees of one size
abbrev pub joined_subtree : Subtree → Subtree → Subtree
joined_subtree left right = record { root = node_hash left.root right.root; size = 2 * right.size }

-- subtrees, the last one first, with one more, where two of one size are joined, again and again
abbrev pub with_subtree : List Subtree → Subtree → List Subtree
with_subtree [] p = p ∷ []
with_subtree (q ∷ qs) p = if nat_eq q.size p.size then with_subtree qs (joined_subtree q p) else p ∷ q ∷ qs

-- the root hash over subtrees, the last one first, and over further leaves with this root hash
abbrev pub root_over : List Subtree → List ℕ → List ℕ
root_over [] root = root
root_over (q ∷ qs) root = root_over qs (node_hash q.root root)
