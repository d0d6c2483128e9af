-- Numbers in trees: a list has for each number its parent, and for a root the root itself.
use Rattle.std.specs.Prelude.{◌≡◌, ℕ, ◌+◌, ◌≤◌, List, length, slice_index}
use Rattle.rp_geometry.specs.laws.PieceLaws.{IsJoined}

-- no number has a greater parent
abbrev pub AreLow : List ℕ → Type 0
AreLow parents = (k : ℕ) → slice_index parents k ≤ k

-- the numbers from 1 to n in trees: two of them are in one tree iff links join them
pub record IsForest (links : List (ℕ × ℕ)) (n : ℕ) (parents : List ℕ) : Type 0 where
  pub size : length parents ≡ n + 1
  pub low : AreLow parents
  pub joined : (k : ℕ) → 1 ≤ k → k ≤ n → IsJoined links n k (slice_index parents k)
  pub apart : (i j : ℕ) → 1 ≤ i → i ≤ n → 1 ≤ j → j ≤ n → slice_index parents i ≡ i → slice_index parents j ≡ j → IsJoined links n i j → i ≡ j
