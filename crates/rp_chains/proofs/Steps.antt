-- In how many steps links lead from a number to the last one.
use Rattle.std.proofs.Common.{◌≡◌, ℕ, zero, suc, ◌+◌, ◌<◌, ◌≤◌, Bool, true, false, ⊎_elim, List, [], ◌∷◌, length, refl, subst, sym, ◌∙◌, arith}
use Rattle.std.specs.Prelude.{Option, Some, None}
use Rattle.std.proofs.lemmas.Bool.{cases_order}
use Rattle.rp_algebra.proofs.Listed.{Listed, first, later}
use Rattle.rp_geometry.specs.parts.Groups.{grown_by}
use Rattle.rp_geometry.specs.parts.Levels.{numbers_below, steps_from}
use Rattle.rp_geometry.specs.sets.Chain.{IsChainBy}
use Rattle.rp_geometry.specs.laws.ChainLaws.{AreLinkedBelow}
use Rattle.rp_chains.proofs.Growing.{below_listed, listed_below, comes_next, CameFrom, there, beside, came, last_step, settled, stays_listed, count_below}

module _ (links : List (ℕ × ℕ)) (n last : ℕ) (below : last < n) where
  -- the numbers from which links lead to the last one in at most k steps
  abbrev within : ℕ → List ℕ
  within k = grown_by k links (numbers_below n) (last ∷ [])

  -- the steps are links between numbers below n
  abbrev Steps : ℕ → ℕ → Type 0
  Steps = AreLinkedBelow links n

  -- all of them are below n
  within_below : (k i : ℕ) → Listed i (within k) → i < n
  within_below zero i first = below
  within_below zero i (later l) = elim l [ ]
  within_below (suc k) i l = listed_below n i (came links (numbers_below n) (within k) i (subst (λ ks. Listed i ks) (last_step links (numbers_below n) k (last ∷ [])) l)).0

  -- a number within k steps has a chain of at most k steps
  pub chain_of : (k i : ℕ) → Listed i (within k) → (js : List ℕ) × IsChainBy Steps last i js × (length js ≤ k)
  chain_of zero i first = ([], refl, omega arith)
  chain_of zero i (later l) = elim l [ ]
  chain_of (suc k) i l =
      let c = came links (numbers_below n) (within k) i (subst (λ ks. Listed i ks) (last_step links (numbers_below n) k (last ∷ [])) l) in
      by_case (listed_below n i c.0) c.1 (chain_of k)
    where
      by_case : i < n → CameFrom links (numbers_below n) (within k) i → ((j : ℕ) → Listed j (within k) → (js : List ℕ) × IsChainBy Steps last j js × (length js ≤ k)) → (js : List ℕ) × IsChainBy Steps last i js × (length js ≤ suc k)
      by_case h (there l) rest = let c = rest i l in (c.0, c.1, let m = c.2 in omega (arith, m))
      by_case h (beside j l e) rest = let c = rest j l in (j ∷ c.0, ((h, within_below k j l, e), c.1), let m = c.2 in omega (arith, m))

  -- a number with a chain of at most k steps is within k steps
  pub of_chain : (k i : ℕ) (js : List ℕ) → IsChainBy Steps last i js → length js ≤ k → Listed i (within k)
  of_chain k i [] c h = subst (λ v. Listed v (within k)) (sym c) (stays_listed links (numbers_below n) k (last ∷ []) last (below_listed n last below) first)
  of_chain zero i (j ∷ js) c h = absurd (omega (arith, h))
  of_chain (suc k) i (j ∷ js) c h =
      subst (λ ks. Listed i ks) (sym (last_step links (numbers_below n) k (last ∷ [])))
      (comes_next links (numbers_below n) (within k) i j (below_listed n i c.0.0) (of_chain k j js c.1 (omega (arith, h))) c.0.2)

  -- a number with any chain is within one step less than there are numbers
  pub near_enough : (m : ℕ) → n ≡ suc m → (js : List ℕ) (i : ℕ) → IsChainBy Steps last i js → Listed i (within m)
  near_enough m e [] i c = subst (λ v. Listed v (within m)) (sym c) (stays_listed links (numbers_below n) m (last ∷ []) last (below_listed n last below) first)
  near_enough m e (j ∷ js) i c =
      subst (λ ks. Listed i ks) (settled links (numbers_below n) m last (below_listed n last below) (count_below n ∙ e))
      (comes_next links (numbers_below n) (within m) i j (below_listed n i c.0.0) (near_enough m e js j c.1) c.0.2)

-- ---- the first count of steps that suffices

-- what the search over counts comes to: none suffices, or the first that does
abbrev pub IsFirstCount : ℕ → ℕ → (ℕ → Bool) → Option ℕ → Type 0
IsFirstCount room k suffices None = (m : ℕ) → k ≤ m → m < k + room → suffices m ≡ false
IsFirstCount room k suffices (Some l) = (suffices l ≡ true) × ((m : ℕ) → k ≤ m → m < l → suffices m ≡ false)

-- the same of a count of which it is known
of_first : (k : ℕ) (suffices : ℕ → Bool) → suffices k ≡ false → (m : ℕ) → k ≤ m → (suc k ≤ m → suffices m ≡ false) → suffices m ≡ false
of_first k suffices e m a rest =
    ⊎_elim
    (λ (f : m ≡ k). subst (λ v. suffices v ≡ false) (sym f) e)
    (⊎_elim (λ (f : m < k). absurd (omega (arith, f, a))) (λ (f : k < m). rest f))
    (cases_order m k)

-- one count more
one_count : (room k : ℕ) (suffices : ℕ → Bool) → suffices k ≡ false → (o : Option ℕ) → IsFirstCount room (suc k) suffices o → IsFirstCount (suc room) k suffices o
one_count room k suffices e None h = λ m a b. of_first k suffices e m a (λ c. h m c (omega (arith, b)))
one_count room k suffices e (Some l) h = (h.0, λ m a b. of_first k suffices e m a (λ c. h.1 m c b))

-- the search finds the first
pub steps_found : (room k : ℕ) (suffices : ℕ → Bool) → IsFirstCount room k suffices (steps_from room k suffices)
steps_found zero k suffices = λ m a b. absurd (omega (arith, a, b))
steps_found (suc room) k suffices = by_test (suffices k) refl (steps_found room (suc k) suffices)
  where
    by_test : (b : Bool) → suffices k ≡ b → IsFirstCount room (suc k) suffices (steps_from room (suc k) suffices)
        → IsFirstCount (suc room) k suffices (elim b as (λ _. Option ℕ) [ true ↦ Some k | false ↦ steps_from room (suc k) suffices ])
    by_test true e rest = (e, λ m a b. absurd (omega (arith, a, b)))
    by_test false e rest = one_count room k suffices e (steps_from room (suc k) suffices) rest
