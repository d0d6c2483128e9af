-- The search for levels, in steps: the levels found so far, and the numbers in the order in which they were reached.
use Rattle.std.specs.Prelude.{ℕ, ◌<◌, true, false, List, [], ◌∷◌, ◌++◌, length, replicate, Option, Some, None, is_some, slice_index, slice_set}
use Rattle.rp_geometry.specs.sets.Chain.{level_of}

-- the levels found so far, and the numbers with a level in the order in which they were reached
pub record Search : Type 0 where
  pub levels : List (Option ℕ)
  pub queue : List ℕ

-- the search at its start: only the number `last` is reached, with the level 0
abbrev pub started : ℕ → ℕ → Search
started n last = record { levels = slice_set (replicate n None) last (Some 0); queue = last ∷ [] }

-- a number without a level is reached with the given level
abbrev pub reach_one : ℕ → ℕ → Search → Search
reach_one level j s = elim (is_some (level_of s.levels j)) [
  | true ↦ s
  | false ↦ record { levels = slice_set s.levels j (Some level); queue = s.queue ++ j ∷ [] }
]

-- each of the numbers without a level is reached with the given level
abbrev pub reach : ℕ → List ℕ → Search → Search
reach level [] s = s
reach level (j ∷ js) s = reach level js (reach_one level j s)

-- all numbers of the list are below n
abbrev pub AreBelow : ℕ → List ℕ → Type 0
AreBelow n js = (k : ℕ) → k < length js → slice_index js k < n
