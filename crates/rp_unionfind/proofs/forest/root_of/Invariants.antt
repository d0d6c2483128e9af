use Rattle.std.proofs.Common.{◌≡◌, ℕ, ◌≤◌, List, get_or}
use Rattle.rp_geometry.specs.laws.PieceLaws.{IsJoined}
use Rattle.rp_unionfind.specs.Forest.{AreLow, IsForest}
use Rattle.rp_unionfind.proofs.forest.root_of.Given as goal

-- the number is joined to the one that was asked for, and the trees are the same
abbrev pub invariant-loop-parents : goal.invariant-loop-parents
invariant-loop-parents l =
    AreLow l.parents
    × (l.number ≤ l.initial.number)
    × ((k : ℕ) → get_or l.initial.parents k 0 ≡ k → get_or l.parents k 0 ≡ k)
    × ((links : List (ℕ × ℕ)) (n : ℕ) → 1 ≤ l.initial.number → IsForest links n l.initial.parents → IsForest links n l.parents × IsJoined links n l.initial.number l.number)

-- the number grows less
abbrev pub decreases-loop-parents : goal.decreases-loop-parents
decreases-loop-parents l = l.number
