-- The numbers below another, and a group that grows by links until it grows no more.
use Rattle.std.proofs.Common.{◌≡◌, ℕ, zero, suc, ◌+◌, ◌<◌, ◌≤◌, Bool, true, ◌⊎◌, inl, inr, ⊎_elim, List, [], ◌∷◌, length, refl, ap, subst, sym, ◌∙◌, arith}
use Rattle.std.proofs.lemmas.Bool.{or_cases, or_left, or_right, cases_order}
use Rattle.std.proofs.lemmas.List.FromFn.{length-range_with_len}
use Rattle.std.specs.Prelude.{◌||◌}
use Rattle.std.specs.List.{list_any, filter}
use Rattle.rp_algebra.proofs.Listed.{Listed, first, later}
use Rattle.rp_geometry.specs.parts.Groups.{is_linked, is_listed_number, grown, grown_by}
use Rattle.rp_geometry.specs.parts.Levels.{numbers_below}
use Rattle.rp_algebra.proofs.Filter.{some_passes, passes_some, kept, keeps, not_longer, filter_grows}
use Rattle.rp_algebra.proofs.Lists.{range_listed, listed_range}
use Rattle.rp_geometry.proofs.Numbered.{listed_is, listed_true}

-- ---- lists of numbers

-- a number below n is one of the numbers below n
pub below_listed : (n k : ℕ) → k < n → Listed k (numbers_below n)
below_listed n k h = range_listed n 0 k (omega arith) (omega (arith, h))

-- and there are no others
pub listed_below : (n k : ℕ) → Listed k (numbers_below n) → k < n
listed_below n k l = let h = (listed_range n 0 k l).1 in omega (arith, h)

-- a list with one item at most, and one that is known
only_one : (k : ℕ) (ks : List ℕ) → Listed k ks → length ks ≤ 1 → ks ≡ k ∷ []
only_one k [] l h = elim l [ ]
only_one k (j ∷ []) first h = refl
only_one k (j ∷ []) (later l) h = elim l [ ]
only_one k (j ∷ i ∷ ks) l h = absurd (omega (arith, h))

-- ---- one step

module _ (links : List (ℕ × ℕ)) (all : List ℕ) where
  -- the number is in the group or linked to one of it
  abbrev pub is_next : List ℕ → ℕ → Bool
  is_next group k = is_listed_number k group || list_any (λ j. is_linked links k j) group

  -- a number of the group stays
  pub stays_next : (group : List ℕ) (k : ℕ) → Listed k all → Listed k group → Listed k (grown links all group)
  stays_next group k a l = keeps (is_next group) all k a (or_left (is_listed_number k group) (list_any (λ j. is_linked links k j) group) (listed_true k group l))

  -- a number that is linked to one of the group comes
  pub comes_next : (group : List ℕ) (k j : ℕ) → Listed k all → Listed j group → is_linked links k j ≡ true → Listed k (grown links all group)
  comes_next group k j a l e = keeps (is_next group) all k a (or_right (is_listed_number k group) (list_any (λ j. is_linked links k j) group) (passes_some (λ j. is_linked links k j) group j l e))

  -- a number of the grown group was there, or is linked to one that was
  pub data CameFrom (group : List ℕ) (k : ℕ) : Type 0 where
    there : Listed k group → CameFrom group k
    beside : (j : ℕ) → Listed j group → is_linked links k j ≡ true → CameFrom group k

  -- from where a number of the grown group came
  pub came : (group : List ℕ) (k : ℕ) → Listed k (grown links all group) → Listed k all × CameFrom group k
  came group k l =
      let r = kept (is_next group) all k l in (
        r.listed,
        ⊎_elim
            (λ (e : is_listed_number k group ≡ true). there (listed_is k group e))
            (λ (e : list_any (λ j. is_linked links k j) group ≡ true). let s = some_passes (λ j. is_linked links k j) group e in beside s.item s.listed s.passes)
            (or_cases (is_listed_number k group) (list_any (λ j. is_linked links k j) group) r.passes),
      )

  -- the last step can be made apart
  pub last_step : (m : ℕ) (group : List ℕ) → grown_by (suc m) links all group ≡ grown links all (grown_by m links all group)
  last_step zero group = refl
  last_step (suc m) group = last_step m (grown links all group)

  -- ---- until it grows no more

  -- a group that does not grow stays as it is
  stays : (m : ℕ) (group : List ℕ) → group ≡ grown links all group → grown_by m links all group ≡ group
  stays zero group e = refl
  stays (suc m) group e = ap (grown_by m links all) (sym e) ∙ stays m group e

  -- a group of some of all numbers grows, or is as it was
  grows_or_not : (group : List ℕ) (test : ℕ → Bool) → group ≡ filter test all → (length group < length (grown links all group)) ⊎ (group ≡ grown links all group)
  grows_or_not group test e =
      subst (λ g. (length g < length (grown links all group)) ⊎ (g ≡ grown links all group)) (sym e)
      (filter_grows all test (is_next group)
      (λ x l p. or_left (is_listed_number x group) (list_any (λ j. is_linked links x j) group) (listed_true x group (subst (λ g. Listed x g) (sym e) (keeps test all x l p)))))

  -- a group of some of all numbers that has grown as often as there are numbers outside it grows no more
  settles : (m : ℕ) (group : List ℕ) (test : ℕ → Bool) → group ≡ filter test all → length all ≤ length group + m → grown links all (grown_by m links all group) ≡ grown_by m links all group
  settles zero group test e room =
      ⊎_elim
      (λ (h : length group < length (grown links all group)). absurd (let l = not_longer (is_next group) all in omega (arith, h, l, room)))
      (λ (s : group ≡ grown links all group). sym s)
      (grows_or_not group test e)
  settles (suc m) group test e room =
      ⊎_elim
      (λ (h : length group < length (grown links all group)). settles m (grown links all group) (is_next group) refl (omega (arith, h, room)))
      (λ (s : group ≡ grown links all group). let t = stays m (grown links all group) (ap (grown links all) s) in ap (grown links all) t ∙ sym (ap (grown links all) s) ∙ sym t)
      (grows_or_not group test e)

  -- what grows from one number grows no more after one step less than there are numbers
  pub settled : (m last : ℕ) → Listed last all → length all ≡ suc m → grown links all (grown_by m links all (last ∷ [])) ≡ grown_by m links all (last ∷ [])
  settled m last l n = by_size (cases_order (length (grown links all (last ∷ []))) 1)
    where
      stood : grown links all (last ∷ []) ≡ last ∷ [] → grown links all (grown_by m links all (last ∷ [])) ≡ grown_by m links all (last ∷ [])
      stood e = let t = stays m (last ∷ []) (sym e) in ap (grown links all) t ∙ e ∙ sym t

      grew : (k : ℕ) → m ≡ k → 1 < length (grown links all (last ∷ [])) → grown links all (grown_by k links all (last ∷ [])) ≡ grown_by k links all (last ∷ [])
      grew zero e h = absurd (let f = not_longer (is_next (last ∷ [])) all in omega (arith, e, h, f, n))
      grew (suc k) e h = settles k (grown links all (last ∷ [])) (is_next (last ∷ [])) refl (omega (arith, e, h, n))

      by_size : (length (grown links all (last ∷ [])) ≡ 1) ⊎ ((length (grown links all (last ∷ [])) < 1) ⊎ (1 < length (grown links all (last ∷ [])))) → grown links all (grown_by m links all (last ∷ [])) ≡ grown_by m links all (last ∷ [])
      by_size (inl e) = stood (only_one last (grown links all (last ∷ [])) (stays_next (last ∷ []) last l first) (omega (arith, e)))
      by_size (inr (inl h)) = stood (only_one last (grown links all (last ∷ [])) (stays_next (last ∷ []) last l first) (omega (arith, h)))
      by_size (inr (inr h)) = grew m refl h

  -- a number of the group stays, however often it grows
  pub stays_listed : (m : ℕ) (group : List ℕ) (k : ℕ) → Listed k all → Listed k group → Listed k (grown_by m links all group)
  stays_listed zero group k l i = i
  stays_listed (suc m) group k l i = stays_listed m (grown links all group) k l (stays_next group k l i)

-- there are as many numbers below n
pub count_below : (n : ℕ) → length (numbers_below n) ≡ n
count_below n = length-range_with_len 0 n
