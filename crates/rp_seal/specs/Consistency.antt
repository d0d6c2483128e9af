-- Proofs of consistency (RFC 9162, section 2.1.4). RFC 9162 lists the hashes of a proof from the leaves up; the definitions read them from the root down.
use Rattle.std.specs.Prelude.{◌≡◌, ℕ, Bool, length, take, ◌-◌, ◌<◌, ◌≤◌, List, [], ◌∷◌, ◌++◌, ◌⊎◌, reverse, Option, Some, None, option_map, nat_eq, nat_le, if◌then◌else◌}
use Rattle.sha2.specs.Sha256.{sha256}
use Rattle.rp_seal.specs.declared.hash.NodeHash.{NodeHash}
use Rattle.rp_seal.specs.Merkle.{node_hash, node_input, root_of, split_point, tree_inputs}
use Rattle.rp_seal.specs.Hash.{hashes_of}

-- the root hashes of a shorter and of a longer tree, and the strings that were hashed for both
pub record Roots : Type 0 where
  pub first : List ℕ
  pub second : List ℕ
  pub inputs : List (List ℕ)

-- the root hashes one level up, if the shorter tree ends in the left subtree: the longer tree alone has the node
abbrev pub in_left : List ℕ → Roots → Roots
in_left sibling r = record { first = r.first; second = node_hash r.second sibling; inputs = node_input r.second sibling ∷ r.inputs }

-- the root hashes one level up, if the shorter tree ends in the right subtree: both trees have the left subtree, and a node each
abbrev pub in_right : List ℕ → Roots → Roots
in_right sibling r = record {
  first = node_hash sibling r.first;
  second = node_hash sibling r.second;
  inputs = node_input sibling r.first ∷ node_input sibling r.second ∷ r.inputs;
}

-- one root hash for both trees
abbrev pub equal_roots : List ℕ → Roots
equal_roots root = record { first = root; second = root; inputs = [] }

-- the root hashes of a subtree that both trees have: the known one, if no hash is left, or else the one hash that is left; none if the number of hashes does not fit
abbrev pub common_roots : Option (List ℕ) → List (List ℕ) → Option Roots
common_roots (Some root) [] = Some (equal_roots root)
common_roots (Some root) (h ∷ hs) = None
common_roots None [] = None
common_roots None (h ∷ []) = Some (equal_roots h)
common_roots None (h ∷ g ∷ hs) = None

-- the root hashes of the first so many leaves and of all so many that the hashes of a proof give, from the root down; none if there are too few or too many. The shorter tree's root hash is known as long as only left subtrees were entered
unfoldable pub consistency_roots : ℕ → ℕ → Option (List ℕ) → List (List ℕ) → Option Roots
consistency_roots first second known [] = if nat_eq first second then common_roots known [] else None
consistency_roots first second known (sibling ∷ below) =
    if nat_eq first second then common_roots known (sibling ∷ below)
    else (if nat_le first (split_point second) then option_map (in_left sibling) (consistency_roots first (split_point second) known below)
    else option_map (in_right sibling) (consistency_roots (first - split_point second) (second - split_point second) None below))

-- the bytes of two hashes
abbrev pub bytes_pair : NodeHash × NodeHash → List ℕ × List ℕ
bytes_pair p = (p.0.bytes, p.1.bytes)

-- both root hashes, without the strings
abbrev pub root_pair : Roots → List ℕ × List ℕ
root_pair r = (r.first, r.second)

-- the strings that were hashed, if there are roots
abbrev pub inputs_along : Option Roots → List (List ℕ)
inputs_along None = []
inputs_along (Some r) = r.inputs

-- a proof leads, with the shorter tree's root hash or without it, to the root hashes of the first so many leaf hashes of a list and of all
abbrev pub IsConsistencyPath : List NodeHash → ℕ → Bool → List NodeHash → Type 0
IsConsistencyPath hashes first is_known proof =
    option_map root_pair (consistency_roots first (length hashes) (if is_known then Some (root_of (hashes_of (take first hashes))) else None) (reverse (hashes_of proof)))
    ≡ Some (root_of (hashes_of (take first hashes)), root_of (hashes_of hashes))

-- the first tree has a leaf, the second tree is no smaller, and a proof leads from the first root hash to both
pub record IsProofFromNonEmpty (first : ℕ) (first_root : List ℕ) (second : ℕ) (second_root : List ℕ) (proof : List (List ℕ)) : Type 0 where
  pub some : 0 < first
  pub longer : first ≤ second
  pub leads : option_map root_pair (consistency_roots first second (Some first_root) (reverse proof)) ≡ Some (first_root, second_root)

-- the first tree is empty and has the root hash of no entries, as the second tree has if it is empty, and the proof has no hashes
pub record IsProofFromEmpty (first : ℕ) (first_root : List ℕ) (second : ℕ) (second_root : List ℕ) (proof : List (List ℕ)) : Type 0 where
  pub none : first ≡ 0
  pub root : first_root ≡ sha256 []
  pub second_none : second ≡ 0 → second_root ≡ sha256 []
  pub bare : proof ≡ []

-- a proof leads from the root hash of a first tree of so many leaves to the root hash of a second tree
abbrev pub IsConsistencyProof : ℕ → List ℕ → ℕ → List ℕ → List (List ℕ) → Type 0
IsConsistencyProof first first_root second second_root proof =
    IsProofFromNonEmpty first first_root second second_root proof ⊎ IsProofFromEmpty first first_root second second_root proof

-- all strings that are hashed to compute the tree hashes of two lists of entries and to follow a proof
abbrev pub consistency_inputs : List (List ℕ) → List (List ℕ) → ℕ → ℕ → List ℕ → List (List ℕ) → List (List ℕ)
consistency_inputs before after first second first_root proof =
    tree_inputs before ++ tree_inputs after ++ inputs_along (consistency_roots first second (Some first_root) (reverse proof))
