-- The computed levels along links between the numbers below n, and the chain that goes down them.
use Rattle.std.specs.Prelude.{ℕ, zero, suc, Bool, true, false, ◌&&◌, ◌==◌, List, [], ◌∷◌, map, length, Option, Some, None, option_map}
use Rattle.std.specs.List.{range_with_len}
use Rattle.rp_geometry.specs.searches.Search.{first_of}
use Rattle.rp_geometry.specs.sets.Chain.{level_of}
use Rattle.rp_geometry.specs.parts.Groups.{is_linked, is_listed_number, grown_by}

-- the numbers from 0 to n - 1
abbrev pub numbers_below : ℕ → List ℕ
numbers_below n = range_with_len 0 n

-- links lead from the number i to the number `last` in at most k steps
abbrev pub is_within_steps : List (ℕ × ℕ) → ℕ → ℕ → ℕ → ℕ → Bool
is_within_steps links n last i k = is_listed_number i (grown_by k links (numbers_below n) (last ∷ []))

-- the least count of steps, from k on, that is enough, if it is among the first `room` counts
abbrev pub steps_from : ℕ → ℕ → (ℕ → Bool) → Option ℕ
steps_from zero k suffices = None
steps_from (suc room) k suffices = elim (suffices k) [ true ↦ Some k | false ↦ steps_from room (suc k) suffices ]

-- the level of each number below n: the least count of steps in which links lead from it to the number `last`
unfoldable pub levels_along : List (ℕ × ℕ) → ℕ → ℕ → List (Option ℕ)
levels_along links n last = map (λ i. steps_from n 0 (is_within_steps links n last i)) (numbers_below n)

-- the level is k
abbrev pub is_level : ℕ → Option ℕ → Bool
is_level k None = false
is_level k (Some l) = l == k

-- the first number that is linked to i and has level k
abbrev pub next_down : List (ℕ × ℕ) → List (Option ℕ) → ℕ → ℕ → Option ℕ
next_down links levels k i = first_of (λ j. elim (is_linked links i j && is_level k (level_of levels j)) [ true ↦ Some j | false ↦ None ]) (numbers_below (length levels))

-- the path down from a number of level k: each step goes to the first linked number whose level is one less
abbrev pub way_down : List (ℕ × ℕ) → List (Option ℕ) → ℕ → ℕ → List ℕ
way_down links levels zero i = i ∷ []
way_down links levels (suc k) i = i ∷ (elim (next_down links levels k i) [ None ↦ [] | Some j ↦ way_down links levels k j ])

-- the chosen chain from one number to the number `last`; none if the number has no level
unfoldable pub chain_along : List (ℕ × ℕ) → ℕ → ℕ → ℕ → Option (List ℕ)
chain_along links n from last = option_map (λ k. way_down links (levels_along links n last) k from) (level_of (levels_along links n last) from)
