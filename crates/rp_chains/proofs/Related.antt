-- Levels and chains of a relation are those of any other that says the same of each two different numbers: a step from a number to itself makes no chain shorter.
use Rattle.std.proofs.Common.{◌≡◌, ℕ, suc, ◌≤◌, ◌⊎◌, inl, inr, List, [], ◌∷◌, length, sym, subst, arith}
use Rattle.std.specs.Prelude.{Option, Some, None}
use Rattle.rp_geometry.specs.sets.Chain.{IsChainBy, HasNoChainBy, IsLeastBy, IsLevelBy, level_of, AreLevelsBy, IsFirstOfLevelBy, GoesDownBy, IsRouteBy, IsChosenBy}

-- each step of the first relation is one of the second, and each step of the second is one of the first or stands still
pub record AreStepsOf (R S : ℕ → ℕ → Type 0) : Type 0 where
  pub there : (i j : ℕ) → R i j → S i j
  pub back : (i j : ℕ) → S i j → R i j ⊎ (i ≡ j)

module _ (R S : ℕ → ℕ → Type 0) (steps : AreStepsOf R S) where
  -- a chain of the first is one of the second
  chain_there : (last : ℕ) (js : List ℕ) (i : ℕ) → IsChainBy R last i js → IsChainBy S last i js
  chain_there last [] i c = c
  chain_there last (j ∷ js) i c = (steps.there i j c.0, chain_there last js j c.1)

  -- a chain of the second has one of the first that is not longer
  chain_back : (last : ℕ) (js : List ℕ) (i : ℕ) → IsChainBy S last i js → (ks : List ℕ) × IsChainBy R last i ks × (length ks ≤ length js)
  chain_back last [] i c = ([], c, omega arith)
  chain_back last (j ∷ js) i c = by_step (steps.back i j c.0) (chain_back last js j c.1)
    where
      by_step : R i j ⊎ (i ≡ j) → ((ks : List ℕ) × IsChainBy R last j ks × (length ks ≤ length js)) → (ks : List ℕ) × IsChainBy R last i ks × (length ks ≤ suc (length js))
      by_step (inl r) rest = (j ∷ rest.0, (r, rest.1), let h = rest.2 in omega (arith, h))
      by_step (inr e) rest = (rest.0, subst (λ v. IsChainBy R last v rest.0) (sym e) rest.1, let h = rest.2 in omega (arith, h))

  -- the least number of steps
  least_there : (last i k : ℕ) → IsLeastBy R last i k → IsLeastBy S last i k
  least_there last i k h = record {
    some = (h.some.0, chain_there last h.some.0 i h.some.1, h.some.2);
    least = λ js c. let r = chain_back last js i c in let a : k ≤ length r.0 = h.least r.0 r.1 in let b = r.2 in omega (arith, a, b);
  }

  -- and back
  least_back : (last i k : ℕ) → IsLeastBy S last i k → IsLeastBy R last i k
  least_back last i k h =
      let r = chain_back last h.some.0 i h.some.1 in
      let a : k ≤ length r.0 = h.least r.0 (chain_there last r.0 i r.1) in
      let b = r.2 in
      let n = h.some.2 in
      record { some = (r.0, r.1, omega (arith, a, b, n)); least = λ js c. h.least js (chain_there last js i c) }

  -- no chain
  pub none_there : (last i : ℕ) → HasNoChainBy R last i → HasNoChainBy S last i
  none_there last i h js c = let r = chain_back last js i c in h r.0 r.1

  -- the level of a number
  level_there : (last i : ℕ) (o : Option ℕ) → IsLevelBy R last i o → IsLevelBy S last i o
  level_there last i None h = none_there last i h
  level_there last i (Some k) h = least_there last i k h

  -- the levels of all numbers
  pub levels_there : (n last : ℕ) (levels : List (Option ℕ)) → AreLevelsBy R n last levels → AreLevelsBy S n last levels
  levels_there n last levels h = record { as_many = h.as_many; each = λ i k. level_there last i (level_of levels i) (h.each i k) }

  -- a number has no level less than its own, so it is not its own next one
  no_less : (last i k : ℕ) → IsLeastBy S last i k → IsLeastBy S last i (suc k) → ⊥
  no_less last i k a b = let h : suc k ≤ length a.some.0 = b.least a.some.0 a.some.1 in let n = a.some.2 in omega (arith, h, n)

  -- the first number of a level less by 1
  first_there : (last i k j : ℕ) → IsLeastBy S last i (suc k) → IsFirstOfLevelBy R last i k j → IsFirstOfLevelBy S last i k j
  first_there last i k j own h = record {
    linked = steps.there i j h.linked;
    level = least_there last j k h.level;
    first = λ m r l. by_step m l (steps.back i m r);
  }
    where
      by_step : (m : ℕ) → IsLeastBy S last m k → R i m ⊎ (i ≡ m) → j ≤ m
      by_step m l (inl r) = h.first m r (least_back last m k l)
      by_step m l (inr e) = absurd (no_less last i k (subst (λ v. IsLeastBy S last v k) (sym e) l) own)

  -- down the levels
  down_there : (last : ℕ) (js : List ℕ) (i : ℕ) → IsLeastBy S last i (length js) → GoesDownBy R last i js → GoesDownBy S last i js
  down_there last [] i own d = d
  down_there last (j ∷ js) i own d = (first_there last i (length js) j own d.0, down_there last js j (least_there last j (length js) d.0.level) d.1)

  -- the chain that is chosen
  pub route_there : (from last : ℕ) (route : List ℕ) → IsRouteBy R from last route → IsRouteBy S from last route
  route_there from last [] h = h
  route_there from last (i ∷ js) h = let own = least_there last from (length js) h.1 in (h.0, own, down_there last js from own h.2)

  -- the chain that is chosen, or that there is none
  pub chosen_there : (from last : ℕ) (o : Option (List ℕ)) → IsChosenBy R from last o → IsChosenBy S from last o
  chosen_there from last None h = none_there last from h
  chosen_there from last (Some route) h = route_there from last route h
