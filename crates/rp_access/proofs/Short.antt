-- The chain that is computed has no more numbers than there are.
use Rattle.std.proofs.Common.{ℕ, zero, suc, ◌+◌, ◌<◌, ◌≤◌, Bool, true, false, List, [], ◌∷◌, map, length, Option, Some, None, arith}
use Rattle.std.specs.Prelude.{IfSome, option_map, slice_index_or}
use Rattle.rp_geometry.specs.sets.Chain.{level_of}
use Rattle.rp_geometry.specs.parts.Levels.{numbers_below, is_within_steps, steps_from, levels_along, next_down, way_down, chain_along}

-- a way down has a step for each level
way_is_short : (links : List (ℕ × ℕ)) (levels : List (Option ℕ)) (k i : ℕ) → length (way_down links levels k i) ≤ suc k
way_is_short links levels zero i = omega arith
way_is_short links levels (suc k) i = by (next_down links levels k i) (λ j. way_is_short links levels k j)
  where
    by : (o : Option ℕ) → ((j : ℕ) → length (way_down links levels k j) ≤ suc k) → suc (length (elim o as (λ _. List ℕ) [ None ↦ [] | Some j ↦ way_down links levels k j ])) ≤ suc (suc k)
    by None shorter = omega arith
    by (Some j) shorter = omega (arith, shorter j)

-- a count of steps is below the bound up to which it is sought
count_is_below : (room k : ℕ) (suffices : ℕ → Bool) → IfSome (steps_from room k suffices) (λ l. l < k + room)
count_is_below zero k suffices = tt
count_is_below (suc room) k suffices = by (suffices k) (count_is_below room (suc k) suffices)
  where
    weaker : (o : Option ℕ) → IfSome o (λ l. l < suc k + room) → IfSome o (λ l. l < k + suc room)
    weaker None h = tt
    weaker (Some l) h = omega arith

    by : (b : Bool) → IfSome (steps_from room (suc k) suffices) (λ l. l < suc k + room) → IfSome (elim b as (λ _. Option ℕ) [ true ↦ Some k | false ↦ steps_from room (suc k) suffices ]) (λ l. l < k + suc room)
    by true rest = omega arith
    by false rest = weaker (steps_from room (suc k) suffices) rest

-- so each entry of a list of such counts is
entry_is_below : (n : ℕ) (f : ℕ → Option ℕ) → ((j : ℕ) → IfSome (f j) (λ l. l < n)) → (xs : List ℕ) (i : ℕ) → IfSome (slice_index_or (map f xs) i None) (λ l. l < n)
entry_is_below n f below [] i = tt
entry_is_below n f below (x ∷ xs) zero = below x
entry_is_below n f below (x ∷ xs) (suc i) = entry_is_below n f below xs i

-- the chain has no more numbers than there are
pub chain_is_short : (links : List (ℕ × ℕ)) (n from last : ℕ) → IfSome (chain_along links n from last) (λ places. length places ≤ n)
unfolding chain_along levels_along
chain_is_short links n from last = by (level_of (levels_along links n last) from) (entry_is_below n (λ i. steps_from n 0 (is_within_steps links n last i)) (λ i. below i) (numbers_below n) from)
  where
    below : (i : ℕ) → IfSome (steps_from n 0 (is_within_steps links n last i)) (λ l. l < n)
    below i = weaker (steps_from n 0 (is_within_steps links n last i)) (count_is_below n 0 (is_within_steps links n last i))
      where
        weaker : (o : Option ℕ) → IfSome o (λ l. l < 0 + n) → IfSome o (λ l. l < n)
        weaker None h = tt
        weaker (Some l) h = omega arith

    by : (o : Option ℕ) → IfSome o (λ l. l < n) → IfSome (option_map (λ k. way_down links (levels_along links n last) k from) o) (λ places. length places ≤ n)
    by None h = tt
    by (Some k) h = let w : length (way_down links (levels_along links n last) k from) ≤ suc k = way_is_short links (levels_along links n last) k from in omega arith
