-- The chain that is computed goes down the levels, and is the one that is chosen.
use Rattle.std.proofs.Common.{◌≡◌, ℕ, zero, suc, ◌+◌, ◌<◌, ◌≤◌, Bool, true, false, ◌&&◌, ◌⊎◌, inl, inr, ⊎_elim, List, [], ◌∷◌, length, refl, ap, subst, sym, ◌∙◌, arith}
use Rattle.std.specs.Prelude.{Option, Some, None, option_map}
use Rattle.std.specs.List.{range_with_len}
use Rattle.std.proofs.lemmas.Bool.{cases_order, eqb-true, eq-eqb}
use Rattle.rp_algebra.proofs.Tests.{false_not_true, and_first, and_second, and_true}
use Rattle.rp_geometry.specs.searches.Search.{first_of}
use Rattle.rp_geometry.specs.parts.Groups.{is_linked}
use Rattle.rp_geometry.specs.parts.Levels.{levels_along, is_level, next_down, way_down, chain_along}
use Rattle.rp_geometry.specs.sets.Chain.{IsChainBy, IsLeastBy, IsLevelBy, level_of, AreLevelsBy, IsFirstOfLevelBy, GoesDownBy, IsChosenBy}
use Rattle.rp_geometry.specs.laws.ChainLaws.{AreLinkedBelow, ChainIsFound}
use Rattle.rp_chains.proofs.One.{one_level}
use Rattle.rp_chains.proofs.Levels.{levels_are_found_spec}

-- ---- the first number that passes a test

-- the number, where it passes
abbrev if_passes : (ℕ → Bool) → ℕ → Option ℕ
if_passes test j = elim (test j) [ true ↦ Some j | false ↦ None ]

-- none of a range passes, or this one is the first that does
abbrev IsFirstIn : (ℕ → Bool) → ℕ → ℕ → Option ℕ → Type 0
IsFirstIn test a n None = (m : ℕ) → a ≤ m → m < a + n → test m ≡ false
IsFirstIn test a n (Some j) = (test j ≡ true) × (j < a + n) × ((m : ℕ) → a ≤ m → m < j → test m ≡ false)

-- what is true of the first and of all later ones
of_first : (test : ℕ → Bool) (a : ℕ) → test a ≡ false → (m : ℕ) → a ≤ m → (a + 1 ≤ m → test m ≡ false) → test m ≡ false
of_first test a e m h rest =
    ⊎_elim
    (λ (f : m ≡ a). subst (λ v. test v ≡ false) (sym f) e)
    (⊎_elim (λ (f : m < a). absurd (omega (arith, f, h))) (λ (f : a < m). rest (omega (arith, f))))
    (cases_order m a)

-- one number more
one_number : (test : ℕ → Bool) (a n : ℕ) → test a ≡ false → (o : Option ℕ) → IsFirstIn test (a + 1) n o → IsFirstIn test a (suc n) o
one_number test a n e None h = λ m l u. of_first test a e m l (λ c. h m c (omega (arith, u)))
one_number test a n e (Some j) h = (h.0, let u = h.1 in omega (arith, u), λ m l u. of_first test a e m l (λ c. h.2 m c u))

-- the search finds the first
first_found : (test : ℕ → Bool) (n a : ℕ) → IsFirstIn test a n (first_of (if_passes test) (range_with_len a n))
first_found test zero a = λ m l u. absurd (omega (arith, l, u))
first_found test (suc n) a = by_test (test a) refl (first_found test n (a + 1))
  where
    by_test : (b : Bool) → test a ≡ b → IsFirstIn test (a + 1) n (first_of (if_passes test) (range_with_len (a + 1) n))
        → IsFirstIn test a (suc n) (elim (elim b as (λ _. Option ℕ) [ true ↦ Some a | false ↦ None ]) as (λ _. Option ℕ) [ Some y ↦ Some y | None ↦ first_of (if_passes test) (range_with_len (a + 1) n) ])
    by_test true e rest = (e, omega arith, λ m l u. absurd (omega (arith, l, u)))
    by_test false e rest = one_number test a n e (first_of (if_passes test) (range_with_len (a + 1) n)) rest

-- ---- the way down

-- the entry is this level
level_is : (k : ℕ) (o : Option ℕ) → is_level k o ≡ true → o ≡ Some k
level_is k None e = absurd (cc)
level_is k (Some l) e = ap Some (eqb-true l k e)

-- and the other way round
is_level_of : (k : ℕ) (o : Option ℕ) → o ≡ Some k → is_level k o ≡ true
is_level_of k o e = subst (λ v. is_level k v ≡ true) (sym e) (eq-eqb k k refl)

-- a list without numbers is a chain of the last one alone
empty_chain : (R : ℕ → ℕ → Type 0) (last i : ℕ) (js : List ℕ) → IsChainBy R last i js → length js ≡ 0 → i ≡ last
empty_chain R last i [] c e = c
empty_chain R last i (j ∷ js) c e = absurd (omega (arith, e))

module _ (links : List (ℕ × ℕ)) (n last : ℕ) (levels : List (Option ℕ)) (right : AreLevelsBy (AreLinkedBelow links n) n last levels) where
  -- the steps are links between numbers below n
  abbrev Steps : ℕ → ℕ → Type 0
  Steps = AreLinkedBelow links n

  -- what the entry of a number says is its level
  entry : (i : ℕ) → i < n → (o : Option ℕ) → level_of levels i ≡ o → IsLevelBy Steps last i o
  entry i h o e = subst (λ v. IsLevelBy Steps last i v) e (right.each i h)

  -- a number of a level above 0 has a step to one of a level less by 1
  pub record IsNearer (i k : ℕ) : Type 0 where
    to : ℕ
    step : Steps i to
    level : level_of levels to ≡ Some k

  -- the second number of a shortest chain
  nearer_by : (i k : ℕ) → IsLeastBy Steps last i (suc k) → (js : List ℕ) → IsChainBy Steps last i js → length js ≡ suc k → IsNearer i k
  nearer_by i k own [] c m = absurd (omega (arith, m))
  nearer_by i k own (j ∷ js) c m = by_entry (level_of levels j) refl
    where
      by_entry : (o : Option ℕ) → level_of levels j ≡ o → IsNearer i k
      by_entry None f = absurd (entry j c.0.1 None f js c.1)
      by_entry (Some l) f =
          let own_j = entry j c.0.1 (Some l) f in
          let a : l ≤ length js = own_j.least js c.1 in
          let b : suc k ≤ length (j ∷ own_j.some.0) = own.least (j ∷ own_j.some.0) (c.0, own_j.some.1) in
          let d = own_j.some.2 in
          let same : l ≡ k = omega (arith, m, a, b, d) in
          record { to = j; step = c.0; level = f ∙ ap Some same }

  -- a number is linked and has the level
  abbrev serves : ℕ → ℕ → ℕ → Bool
  serves i k j = is_linked links i j && is_level k (level_of levels j)

  -- the next number on the way down is the first that serves
  next_is : (i k : ℕ) → i < n → IsLeastBy Steps last i (suc k) → (o : Option ℕ) → IsFirstIn (serves i k) 0 (length levels) o → (j : ℕ) × (o ≡ Some j) × (j < n) × (level_of levels j ≡ Some k) × IsFirstOfLevelBy Steps last i k j
  next_is i k h own None f =
      let r = nearer_by i k own own.some.0 own.some.1 own.some.2 in
      let count = right.as_many in
      let in_range = r.step.1 in
      absurd (false_not_true (serves i k r.to) (and_true (is_linked links i r.to) (is_level k (level_of levels r.to)) r.step.2 (is_level_of k (level_of levels r.to) r.level)) (f r.to (omega arith) (omega (arith, count, in_range))))
  next_is i k h own (Some j) f = (
    j,
    refl,
    j_below,
    j_level,
    record {
      linked = (h, j_below, and_first (is_linked links i j) (is_level k (level_of levels j)) f.0);
      level = entry j j_below (Some k) j_level;
      first = λ m step l. not_before m step l (cases_order j m);
    },
  )
    where
      j_below : j < n
      j_below = let count = right.as_many in let u = f.1 in omega (arith, count, u)

      j_level : level_of levels j ≡ Some k
      j_level = level_is k (level_of levels j) (and_second (is_linked links i j) (is_level k (level_of levels j)) f.0)

      not_before : (m : ℕ) → Steps i m → IsLevelBy Steps last m (Some k) → ((j ≡ m) ⊎ ((j < m) ⊎ (m < j))) → j ≤ m
      not_before m step l (inl e) = omega (arith, e)
      not_before m step l (inr (inl e)) = omega (arith, e)
      not_before m step l (inr (inr e)) =
          let level : level_of levels m ≡ Some k = one_level Steps last m (level_of levels m) (Some k) (right.each m step.1) l in
          absurd (false_not_true (serves i k m) (and_true (is_linked links i m) (is_level k (level_of levels m)) step.2 (is_level_of k (level_of levels m) level)) (f.2 m (omega arith) e))

  -- the way down from a number of a level: the number, and then as many as its level says
  pub record IsWayDown (i k : ℕ) (way : List ℕ) : Type 0 where
    rest : List ℕ
    is : way ≡ i ∷ rest
    count : length rest ≡ k
    down : GoesDownBy Steps last i rest

  -- the way that is computed
  way_found : (k i : ℕ) → i < n → level_of levels i ≡ Some k → IsWayDown i k (way_down links levels k i)
  way_found zero i h e = let own = entry i h (Some 0) e in record { rest = []; is = refl; count = refl; down = empty_chain Steps last i own.some.0 own.some.1 own.some.2 }
  way_found (suc k) i h e =
      let own = entry i h (Some (suc k)) e in
      let r = next_is i k h own (next_down links levels k i) (first_found (serves i k) (length levels) 0) in
      let w = way_found k r.0 r.2 r.3 in
      let count = w.count in
      record {
        rest = r.0 ∷ w.rest;
        is = subst (λ o. (i ∷ (elim o as (λ _. List ℕ) [ None ↦ [] | Some j ↦ way_down links levels k j ])) ≡ i ∷ r.0 ∷ w.rest) (sym r.1) (ap (λ js. i ∷ js) w.is);
        count = omega (arith, count);
        down = (subst (λ v. IsFirstOfLevelBy Steps last i v r.0) (sym count) r.4, w.down);
      }

  -- the chain, by the level of its first number
  chain_found : (from : ℕ) → from < n → (o : Option ℕ) → level_of levels from ≡ o → IsChosenBy Steps from last (option_map (λ k. way_down links levels k from) o)
  chain_found from h None e = entry from h None e
  chain_found from h (Some k) e =
      let w = way_found k from h e in
      subst (λ way. IsChosenBy Steps from last (Some way)) (sym w.is) (refl, subst (IsLeastBy Steps last from) (sym w.count) (entry from h (Some k) e), w.down)

-- the law
pub chain_is_found_spec : ChainIsFound
unfolding chain_along
chain_is_found_spec links n from last from_below below =
    chain_found links n last (levels_along links n last) (levels_are_found_spec links n last below) from from_below (level_of (levels_along links n last) from) refl
