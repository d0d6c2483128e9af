use Rattle.std.proofs.Common.{◌≡◌, ℕ, ◌<◌, length, get_or}
use Rattle.rp_unionfind.proofs.forest.single_trees.Given as goal

-- each number so far is its own root
abbrev pub invariant-loop-number : goal.invariant-loop-number
invariant-loop-number l = (length l.parents.items ≡ l.number) × ((k : ℕ) → k < l.number → get_or l.parents.items k 0 ≡ k)
