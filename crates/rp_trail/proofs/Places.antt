-- The first place of a half-space in a list, and the list without it.
use Rattle.std.proofs.Common.{◌≡◌, ℕ, suc, ◌+◌, ◌<◌, ◌≤◌, Bool, true, false, not, cond, List, [], ◌∷◌, ◌++◌, length, refl, sym, ap, ◌∙◌, arith}
use Rattle.std.specs.Prelude.{Some, None, nat_lt}
use Rattle.std.specs.List.{position, position_or_len, remove}
use Rattle.std.proofs.lemmas.List.{append-nil, take_all}
use Rattle.std.proofs.Math.ListN.{drop_of_length-le}
use Rattle.rp_algebra.proofs.Options.{none_not_some, some_not_none, same_some}
use Rattle.rp_geometry.specs.Geometry.{HalfSpace, half_space_eq}
use Rattle.rp_reports.specs.Check.{without}

-- ---- a place that is found, or none

-- the place, by the test that one is found
place_by : (n m i : ℕ) (b : Bool) → nat_lt n m ≡ b → cond b (Some n) None ≡ Some i → (n ≡ i) × (i < m)
place_by n m i true t e = (same_some n i e, below n m i t (same_some n i e))
  where
    below : (n m i : ℕ) → nat_lt n m ≡ true → n ≡ i → i < m
    below n m i t e = grind arith
place_by n m i false t e = absurd (none_not_some i e)

-- the place that is found is the first one
pub place_found : {X : Type 0} (p : X → Bool) (xs : List X) (i : ℕ) → position p xs ≡ Some i → (position_or_len p xs ≡ i) × (i < length xs)
place_found p xs i e = place_by (position_or_len p xs) (length xs) i (nat_lt (position_or_len p xs) (length xs)) refl e

-- none is found, by the test
none_by : (n m : ℕ) (b : Bool) → nat_lt n m ≡ b → cond b (Some n) None ≡ None → m ≤ n
none_by n m true t e = absurd (some_not_none n e)
none_by n m false t e = above n m t
  where
    above : (n m : ℕ) → nat_lt n m ≡ false → m ≤ n
    above n m t = grind arith

-- where none is found the first place is past the end
pub none_found : {X : Type 0} (p : X → Bool) (xs : List X) → position p xs ≡ None → length xs ≤ position_or_len p xs
none_found p xs e = none_by (position_or_len p xs) (length xs) (nat_lt (position_or_len p xs) (length xs)) refl e

-- ---- the list without it

-- the first place is removed
without_is : (h : HalfSpace) (ks : List HalfSpace) → without h ks ≡ remove ks (position_or_len (half_space_eq h) ks)
without_is h [] = refl
without_is h (k ∷ ks) = by_test (position_or_len (half_space_eq h) ks) (without_is h ks) (half_space_eq h k)
  where
    by_test : (n : ℕ) → without h ks ≡ remove ks n → (b : Bool) → (elim b as (λ _. List HalfSpace) [ true ↦ ks | false ↦ k ∷ without h ks ]) ≡ remove (k ∷ ks) (cond (not b) (1 + n) 0)
    by_test n e true = refl
    by_test n e false = ap (λ l. k ∷ l) e ∙ (let one : suc n ≡ 1 + n = omega arith in ap (remove (k ∷ ks)) one)

-- the place that is found is removed
pub without_at : (h : HalfSpace) (ks : List HalfSpace) (i : ℕ) → position (half_space_eq h) ks ≡ Some i → remove ks i ≡ without h ks
without_at h ks i e = sym (without_is h ks ∙ ap (remove ks) (place_found (half_space_eq h) ks i e).0)

-- nothing is removed where no place is found
pub without_none : (h : HalfSpace) (ks : List HalfSpace) → position (half_space_eq h) ks ≡ None → ks ≡ without h ks
without_none h ks e =
    let n = position_or_len (half_space_eq h) ks in
    let past = none_found (half_space_eq h) ks e in
    sym (without_is h ks ∙ (λ i. take_all n ks past i ++ drop_of_length-le ks (beyond n past) i) ∙ append-nil ks)
  where
    beyond : (n : ℕ) → length ks ≤ n → length ks ≤ suc n
    beyond n h = omega arith
