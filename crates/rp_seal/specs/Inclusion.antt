-- Proofs of inclusion (RFC 9162, section 2.1.3). RFC 9162 lists the hashes of a proof from the leaf up; the definitions read them from the root down.
use Rattle.std.specs.Prelude.{◌≡◌, ℕ, ◌-◌, ◌<◌, List, [], ◌∷◌, ◌++◌, reverse, Option, Some, None, option_map, unwrap_or, nat_eq, nat_lt, if◌then◌else◌}
use Rattle.rp_seal.specs.Merkle.{leaf_hash, leaf_input, node_hash, node_input, split_point, tree_inputs}

-- the root hash that a leaf hash at an index among so many leaves gives with the hashes next to its path, from the root down; none if there are too few or too many hashes
unfoldable pub inclusion_root : ℕ → ℕ → List ℕ → List (List ℕ) → Option (List ℕ)
inclusion_root index size leaf [] = if nat_eq size 1 then Some leaf else None
inclusion_root index size leaf (sibling ∷ below) =
    if nat_lt 1 size then (if nat_lt index (split_point size)
    then option_map (λ h. node_hash h sibling) (inclusion_root index (split_point size) leaf below)
    else option_map (λ h. node_hash sibling h) (inclusion_root (index - split_point size) (size - split_point size) leaf below))
    else None

-- the strings that are hashed to compute `inclusion_root`
unfoldable pub path_inputs : ℕ → ℕ → List ℕ → List (List ℕ) → List (List ℕ)
path_inputs index size leaf [] = []
path_inputs index size leaf (sibling ∷ below) =
    if nat_lt index (split_point size)
    then node_input (unwrap_or (inclusion_root index (split_point size) leaf below) []) sibling ∷ path_inputs index (split_point size) leaf below
    else node_input sibling (unwrap_or (inclusion_root (index - split_point size) (size - split_point size) leaf below) []) ∷ path_inputs (index - split_point size) (size - split_point size) leaf below

-- a proof leads from a leaf hash at an index below the size to a root hash
pub record IsInclusionProof (root : List ℕ) (size index : ℕ) (leaf : List ℕ) (proof : List (List ℕ)) : Type 0 where
  pub within : index < size
  pub leads : inclusion_root index size leaf (reverse proof) ≡ Some root

-- all strings that are hashed to compute the tree hash of the entries and to follow a proof for an entry
abbrev pub inclusion_inputs : List (List ℕ) → ℕ → ℕ → List ℕ → List (List ℕ) → List (List ℕ)
inclusion_inputs entries size index entry proof =
    tree_inputs entries ++ leaf_input entry ∷ path_inputs index size (leaf_hash entry) (reverse proof)
