use Rattle.std.proofs.Common.{◌≡◌, ap, ap₂, ◌∙◌, arith, length, take, drop, map, List, ℕ}
use Rattle.std.proofs.lemmas.List.{take-map, drop-map, length-map}
use Rattle.rp_seal.specs.Merkle.{leaf_hash, node_hash, root_of, split_point, tree_hash}
use Rattle.rp_seal.proofs.Splits.{split-is}
use Rattle.rp_seal.proofs.Trees.{root-none, root-one, root-many}
use Rattle.rp_seal.proofs.laws.tree_hash_equations.Goals as goal

pub returns-clause-none : goal.returns-clause-none
unfolding tree_hash
returns-clause-none c = root-none

pub returns-clause-one : goal.returns-clause-one
unfolding tree_hash
returns-clause-one c = λ entry. root-one (leaf_hash entry)

pub returns-clause-more : goal.returns-clause-more
unfolding tree_hash
returns-clause-more c = λ entries many.
    let len : length (map leaf_hash entries) ≡ length entries = length-map entries leaf_hash in
    root-many (map leaf_hash entries) (omega (arith, len, many))
    ∙ ap (λ k. node_hash (root_of (take k (map leaf_hash entries))) (root_of (drop k (map leaf_hash entries)))) (ap split_point len)
    ∙ ap₂ (λ (l r : List (List ℕ)). node_hash (root_of l) (root_of r)) (take-map leaf_hash (split_point (length entries)) entries) (drop-map leaf_hash (split_point (length entries)) entries)

pub returns-clause-split : goal.returns-clause-split
returns-clause-split c = split-is
