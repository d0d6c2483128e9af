-- The levels that are computed from links are the levels.
use Rattle.std.proofs.Common.{◌≡◌, ℕ, zero, suc, ◌+◌, ◌<◌, ◌≤◌, ⊎_elim, List, length, map, refl, subst, sym, ◌∙◌, arith}
use Rattle.std.specs.Prelude.{Option, Some, None}
use Rattle.std.specs.List.{range_with_len}
use Rattle.std.proofs.lemmas.Bool.{cases_order}
use Rattle.std.proofs.lemmas.List.FromFn.{length-map-range_with_len}
use Rattle.rp_algebra.proofs.Tests.{false_not_true}
use Rattle.rp_geometry.specs.parts.Levels.{numbers_below, is_within_steps, steps_from, levels_along}
use Rattle.rp_geometry.specs.sets.Chain.{IsChainBy, IsLevelBy, level_of}
use Rattle.rp_geometry.specs.laws.ChainLaws.{AreLinkedBelow, LevelsAreFound}
use Rattle.rp_geometry.proofs.Numbered.{listed_is, listed_true}
use Rattle.rp_chains.proofs.Steps.{chain_of, of_chain, near_enough, IsFirstCount, steps_found}

-- the entry of a number in a list that is made number by number
entry_of_made : (f : ℕ → Option ℕ) (a n i : ℕ) → i < n → level_of (map f (range_with_len a n)) i ≡ f (a + i)
entry_of_made f a zero i h = absurd (omega (arith, h))
entry_of_made f a (suc n) zero h = let e : a ≡ a + 0 = omega arith in λ i. f (e i)
entry_of_made f a (suc n) (suc i) h = let e : a + 1 + i ≡ a + suc i = omega arith in entry_of_made f (a + 1) n i (omega (arith, h)) ∙ (λ k. f (e k))

-- the entry of a number in a list that is made of all numbers below n
entry_of : (f : ℕ → Option ℕ) (n i : ℕ) → i < n → level_of (map f (numbers_below n)) i ≡ f i
entry_of f n i h = let e : 0 + i ≡ i = omega arith in entry_of_made f 0 n i h ∙ (λ k. f (e k))

module _ (links : List (ℕ × ℕ)) (n last : ℕ) (below : last < n) where
  -- the steps are links between numbers below n
  abbrev Steps : ℕ → ℕ → Type 0
  Steps = AreLinkedBelow links n

  -- the count of steps that is found is the level
  level_found : (i : ℕ) → i < n → (o : Option ℕ) → IsFirstCount n 0 (is_within_steps links n last i) o → IsLevelBy Steps last i o
  level_found i h None found = λ js c. by_count js c n refl
    where
      by_count : (js : List ℕ) → IsChainBy Steps last i js → (m : ℕ) → n ≡ m → ⊥
      by_count js c zero e = omega (arith, e, h)
      by_count js c (suc m) e = false_not_true (is_within_steps links n last i m) (listed_true i _ (near_enough links n last below m e js i c)) (found m (omega arith) (omega (arith, e)))
  level_found i h (Some l) found = record { some = (c.0, c.1, omega (arith, c.2, shortest c.0 c.1)); least = shortest }
    where
      c : (js : List ℕ) × IsChainBy Steps last i js × (length js ≤ l)
      c = chain_of links n last below l i (listed_is i _ found.0)

      shortest : (js : List ℕ) → IsChainBy Steps last i js → l ≤ length js
      shortest js d =
          ⊎_elim
          (λ (e : l ≡ length js). omega (arith, e))
          (⊎_elim
          (λ (f : l < length js). omega (arith, f))
          (λ (f : length js < l). absurd (false_not_true (is_within_steps links n last i (length js)) (listed_true i _ (of_chain links n last below (length js) i js d (omega arith))) (found.1 (length js) (omega arith) f))))
          (cases_order l (length js))

-- the law
pub levels_are_found_spec : LevelsAreFound
unfolding levels_along
levels_are_found_spec links n last below = record {
  as_many = length-map-range_with_len (λ i. steps_from n 0 (is_within_steps links n last i)) 0 n;
  each = λ i h. subst (IsLevelBy (AreLinkedBelow links n) last i) (sym (entry_of (λ i. steps_from n 0 (is_within_steps links n last i)) n i h))
      (level_found links n last below i h (steps_from n 0 (is_within_steps links n last i)) (steps_found n 0 (is_within_steps links n last i)));
}
