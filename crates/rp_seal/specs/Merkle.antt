-- The Merkle tree hash of a list of byte strings (RFC 9162, section 2.1.1).
use Rattle.std.specs.Prelude.{◌≡◌, ℕ, zero, suc, ◌*◌, ◌^◌, ◌<◌, ◌≤◌, List, [], ◌∷◌, ◌++◌, length, take, drop, map, nat_lt, if◌then◌else◌}
use Rattle.sha2.specs.Sha256.{sha256}

-- k is a power of two
abbrev pub IsPowerOfTwo : ℕ → Type 0
IsPowerOfTwo k = (e : ℕ) × (k ≡ 2 ^ e)

-- k is the largest power of two below n
pub record IsSplitPoint (n k : ℕ) : Type 0 where
  pub power : IsPowerOfTwo k
  pub below : k < n
  pub largest : n ≤ 2 * k

-- the number k, doubled as long as the double is below n, and at most so many times
unfoldable pub doubled_below : ℕ → ℕ → ℕ → ℕ
doubled_below zero k n = k
doubled_below (suc times) k n = if nat_lt (2 * k) n then doubled_below times (2 * k) n else k

-- the largest power of two below n, for n above 1: so many of n leaves are in the left subtree
unfoldable pub split_point : ℕ → ℕ
split_point n = doubled_below n 1 n

-- the string that is hashed for an entry: a byte 0 and the entry
abbrev pub leaf_input : List ℕ → List ℕ
leaf_input entry = 0 ∷ entry

-- the string that is hashed for an inner node: a byte 1 and the hashes of its two subtrees
abbrev pub node_input : List ℕ → List ℕ → List ℕ
node_input left right = 1 ∷ left ++ right

-- the leaf hash of an entry
abbrev pub leaf_hash : List ℕ → List ℕ
leaf_hash entry = sha256 (leaf_input entry)

-- the hash of an inner node, from the hashes of its two subtrees
abbrev pub node_hash : List ℕ → List ℕ → List ℕ
node_hash left right = sha256 (node_input left right)

-- a tree with leaf hashes
pub data Tree : Type 0 where
  none : Tree
  leaf : List ℕ → Tree
  node : Tree → Tree → Tree

-- the tree over a list of leaf hashes, of at most so many levels: more than one hash are split at the split point of their number
unfoldable pub tree_within : ℕ → List (List ℕ) → Tree
tree_within zero hs = none
tree_within (suc levels) [] = none
tree_within (suc levels) (h ∷ []) = leaf h
tree_within (suc levels) (h ∷ g ∷ hs) =
    node (tree_within levels (take (split_point (length (h ∷ g ∷ hs))) (h ∷ g ∷ hs)))
    (tree_within levels (drop (split_point (length (h ∷ g ∷ hs))) (h ∷ g ∷ hs)))

-- the tree over a list of leaf hashes
unfoldable pub tree_of : List (List ℕ) → Tree
tree_of hs = tree_within (length hs) hs

-- the root hash of a tree
abbrev pub hash_of : Tree → List ℕ
hash_of none = sha256 []
hash_of (leaf h) = h
hash_of (node left right) = node_hash (hash_of left) (hash_of right)

-- the strings that are hashed for the inner nodes of a tree
abbrev pub inputs_in : Tree → List (List ℕ)
inputs_in none = []
inputs_in (leaf h) = []
inputs_in (node left right) = node_input (hash_of left) (hash_of right) ∷ inputs_in left ++ inputs_in right

-- the root hash over a list of leaf hashes
unfoldable pub root_of : List (List ℕ) → List ℕ
root_of hs = hash_of (tree_of hs)

-- the strings that are hashed for the inner nodes over a list of leaf hashes
unfoldable pub inputs_of : List (List ℕ) → List (List ℕ)
inputs_of hs = inputs_in (tree_of hs)

-- the Merkle tree hash of a list of entries
unfoldable pub tree_hash : List (List ℕ) → List ℕ
tree_hash entries = root_of (map leaf_hash entries)

-- all strings that are hashed to compute the tree hash of a list of entries
unfoldable pub tree_inputs : List (List ℕ) → List (List ℕ)
tree_inputs entries = map leaf_input entries ++ inputs_of (map leaf_hash entries)
