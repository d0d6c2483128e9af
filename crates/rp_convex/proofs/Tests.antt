-- What the tests of a certificate say: of multipliers, and of half-spaces in a list.
use Rattle.std.proofs.Common.{◌≡◌, ℤ, pos, ◌<ℤ◌, true, false, List, [], ◌∷◌, ⊎_elim, refl, sym, subst, arith}
use Rattle.std.specs.List.{AllByRecursion}
use Rattle.std.proofs.lemmas.Int.{ints}
use Rattle.std.proofs.lemmas.Bool.{or_cases, or_left, or_right}
use Rattle.std.proofs.lemmas.Bool.Decides.{Decides-int_eq}
use Rattle.rp_algebra.specs.Integer.{int_eq, is_zero}
use Rattle.rp_geometry.specs.Geometry.{HalfSpace, half_space_eq, is_listed}
use Rattle.rp_geometry.specs.searches.Certificate.{Multiple, weighted_sum, is_multiplier, is_balanced}
use Rattle.rp_algebra.proofs.Tests.{and_true, and_first, and_second, at_most_is, at_most_true, zero_is, is_zero_true, false_not_true}
use Rattle.rp_algebra.proofs.Listed.{all_map}
use Rattle.rp_algebra.specs.Within.{IsWithin}
use Rattle.rp_convex.proofs.Combination.{Among, none, skip, take, greatest_minor}

-- ---- multipliers
-- a positive number as small as a minor is a multiplier
pub multiplier-from : (v : ℤ) → pos 0 <ℤ v → IsWithin greatest_minor v → is_multiplier v ≡ true
multiplier-from v p h =
    let s = h.abs_le in
    and_true _ _ (at_most_true (pos 1) v (omega (arith, ints))) (at_most_true v (pos 37778931862957161709567) (omega (arith, ints, s)))

-- a multiplier is positive
pub multiplier-to : (v : ℤ) → is_multiplier v ≡ true → pos 0 <ℤ v
multiplier-to v e =
    let l = at_most_is (pos 1) v (and_first _ _ e) in
    omega (arith, ints, l)

-- ---- sums that are 0
-- the first three coefficients add up to 0
pub record Balanced (ts : List Multiple) : Type 0 where
  pub a : weighted_sum (λ h. h.a) ts ≡ pos 0
  pub b : weighted_sum (λ h. h.b) ts ≡ pos 0
  pub c : weighted_sum (λ h. h.c) ts ≡ pos 0

-- multiples that pass the test of a balance are balanced
pub balanced-to : (ts : List Multiple) → is_balanced ts ≡ true → Balanced ts
balanced-to ts e =
    let two = and_first _ (is_zero (weighted_sum (λ h. h.c) ts)) e in
    record {
      a = zero_is (weighted_sum (λ h. h.a) ts) (and_first (is_zero (weighted_sum (λ h. h.a) ts)) _ two);
      b = zero_is (weighted_sum (λ h. h.b) ts) (and_second (is_zero (weighted_sum (λ h. h.a) ts)) _ two);
      c = zero_is (weighted_sum (λ h. h.c) ts) (and_second _ (is_zero (weighted_sum (λ h. h.c) ts)) e);
    }

-- multiples whose first three coefficients add up to 0 pass the test
pub balanced-from : (ts : List Multiple) → weighted_sum (λ h. h.a) ts ≡ pos 0 → weighted_sum (λ h. h.b) ts ≡ pos 0 → weighted_sum (λ h. h.c) ts ≡ pos 0 → is_balanced ts ≡ true
balanced-from ts a b c =
    and_true _ (is_zero (weighted_sum (λ h. h.c) ts)) (and_true (is_zero (weighted_sum (λ h. h.a) ts)) (is_zero (weighted_sum (λ h. h.b) ts)) (is_zero_true _ a) (is_zero_true _ b)) (is_zero_true _ c)

-- ---- half-spaces
-- a half-space is equal to itself
pub half_space_eq-same : (h : HalfSpace) → half_space_eq h h ≡ true
half_space_eq-same h =
    and_true _ _ ((Decides-int_eq h.a h.a).1 refl)
    (and_true _ _ ((Decides-int_eq h.b h.b).1 refl) (and_true _ _ ((Decides-int_eq h.c h.c).1 refl) ((Decides-int_eq h.d h.d).1 refl)))

-- half-spaces that pass the test are equal
pub half_space_eq-to : (h k : HalfSpace) → half_space_eq h k ≡ true → k ≡ h
half_space_eq-to h k e =
    let bcd = and_second (int_eq h.a k.a) _ e in
    let cd = and_second (int_eq h.b k.b) _ bcd in
    let ea = (Decides-int_eq h.a k.a).0 (and_first (int_eq h.a k.a) _ e) in
    let eb = (Decides-int_eq h.b k.b).0 (and_first (int_eq h.b k.b) _ bcd) in
    let ec = (Decides-int_eq h.c k.c).0 (and_first (int_eq h.c k.c) _ cd) in
    let ed = (Decides-int_eq h.d k.d).0 (and_second (int_eq h.c k.c) _ cd) in
    λ i. record { a = sym ea i; b = sym eb i; c = sym ec i; d = sym ed i }

-- a half-space that is listed has what all of the list have
pub listed-to : (P : HalfSpace → Type 0) (h : HalfSpace) (hs : List HalfSpace) → is_listed h hs ≡ true → AllByRecursion P hs → P h
listed-to P h [] e all = absurd (false_not_true false e refl)
listed-to P h (k ∷ hs) e all =
    ⊎_elim
    (λ s. subst P (half_space_eq-to h k s) all.0)
    (λ t. listed-to P h hs t all.1)
    (or_cases (half_space_eq h k) (is_listed h hs) e)

-- what is listed is listed in a list with one more
listed_more : (k : HalfSpace) (hs : List HalfSpace) (ks : List HalfSpace) → AllByRecursion (λ h. is_listed h hs ≡ true) ks → AllByRecursion (λ h. is_listed h (k ∷ hs) ≡ true) ks
listed_more k hs ks all = all_map (λ h. is_listed h hs ≡ true) (λ h. is_listed h (k ∷ hs) ≡ true) (λ h e. or_right (half_space_eq h k) (is_listed h hs) e) ks all

-- the half-spaces of a sublist are listed
pub listed-from : {ks hs : List HalfSpace} → Among ks hs → AllByRecursion (λ h. is_listed h hs ≡ true) ks
listed-from none = tt
listed-from (skip {h} {hs} {ks} m) = listed_more h hs ks (listed-from m)
listed-from (take {h} {hs} {ks} m) = (or_left (half_space_eq h h) (is_listed h hs) (half_space_eq-same h), listed_more h hs ks (listed-from m))
