-- The view of a compact tree.
use Rattle.std.specs.Prelude.{ℕ, List}
use Rattle.rp_seal.specs.declared.tree.CompactTree.{CompactTree}
use Rattle.rp_seal.specs.Peaks.{AreSubtrees, subtrees_of}

-- the number of leaves of a compact tree
abbrev pub size_of : CompactTree → ℕ
size_of t = t.size

-- a compact tree has exactly these leaf hashes
unfoldable pub IsTreeOver : CompactTree → List (List ℕ) → Type 0
IsTreeOver t hashes = AreSubtrees (subtrees_of t.peaks.items) hashes
