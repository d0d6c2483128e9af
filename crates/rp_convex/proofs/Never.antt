-- A solution and a certificate exclude each other: at the point, the multiples of the sides add up to the sum of the fourth coefficients.
use Rattle.std.proofs.Common.{◌≡◌, ℤ, pos, neg_ℤ, ◌+ℤ◌, ◌*ℤ◌, ◌≤ℤ◌, ◌<ℤ◌, Bool, true, false, ◌&&◌, List, [], ◌∷◌, length, ap, ◌∙◌, arith}
use Rattle.std.specs.List.{AllByRecursion, list_all}
use Rattle.rp_algebra.specs.Integer.{is_positive, is_nonnegative}
use Rattle.rp_geometry.specs.Geometry.{RationalPoint, HalfSpace, side_value, with_cube, is_listed}
use Rattle.rp_geometry.specs.searches.Certificate.{Multiple, weighted_sum, is_balanced, is_contradiction, is_one_to_four, is_multiplier, is_outside_certificate}
use Rattle.rp_geometry.specs.searches.Elimination.{half_spaces_of}
use Rattle.rp_geometry.specs.laws.CellLaws.{IsSolution}
use Rattle.rp_algebra.proofs.IntLaws.{linear, signs, mul_pos_ℤ, nonneg_of_pos_ℤ}
use Rattle.rp_algebra.proofs.Reify.{by_ring_at, le_by_ring, lt_by_ring, reify}
use Rattle.rp_algebra.proofs.Tests.{and_first, and_second, positive_is, negative_is, at_most_is}
use Rattle.rp_algebra.proofs.Listed.{all_map, list_all_is}
use Rattle.rp_algebra.proofs.Numbers.{last_only}
use Rattle.rp_convex.proofs.Combination.{ArePositive}
use Rattle.rp_convex.proofs.Cone.{weighted_sum_nonneg}
use Rattle.rp_convex.proofs.Tests.{listed-to, multiplier-to, balanced-to}

-- ---- the sum of the sides
-- the sum of no sides
side_none : (x y z w : ℤ) → pos 0 ≡ pos 0 *ℤ x +ℤ pos 0 *ℤ y +ℤ pos 0 *ℤ z +ℤ pos 0 *ℤ w
side_none x y z w = by_ring_at (x ∷ y ∷ z ∷ w ∷ []) (search reify depth 40 fits 100000) tt

-- the sum of one side more
side_more : (k a b c d ta tb tc td x y z w : ℤ) → k *ℤ (a *ℤ x +ℤ b *ℤ y +ℤ c *ℤ z +ℤ d *ℤ w) +ℤ (ta *ℤ x +ℤ tb *ℤ y +ℤ tc *ℤ z +ℤ td *ℤ w) ≡ (k *ℤ a +ℤ ta) *ℤ x +ℤ (k *ℤ b +ℤ tb) *ℤ y +ℤ (k *ℤ c +ℤ tc) *ℤ z +ℤ (k *ℤ d +ℤ td) *ℤ w
side_more k a b c d ta tb tc td x y z w = by_ring_at (k ∷ a ∷ b ∷ c ∷ d ∷ ta ∷ tb ∷ tc ∷ td ∷ x ∷ y ∷ z ∷ w ∷ []) (search reify depth 40 fits 100000) tt

-- the sum of the sides at a point is the side of the sums
pub weighted_sum-side : (p : RationalPoint) (ts : List Multiple) → weighted_sum (λ h. side_value h p) ts ≡ weighted_sum (λ h. h.a) ts *ℤ p.x +ℤ weighted_sum (λ h. h.b) ts *ℤ p.y +ℤ weighted_sum (λ h. h.c) ts *ℤ p.z +ℤ weighted_sum (λ h. h.d) ts *ℤ p.w
weighted_sum-side p [] = side_none p.x p.y p.z p.w
weighted_sum-side p (t ∷ ts) =
    ap (λ s. t.factor *ℤ side_value t.of p +ℤ s) (weighted_sum-side p ts)
    ∙ side_more t.factor t.of.a t.of.b t.of.c t.of.d (weighted_sum (λ h. h.a) ts) (weighted_sum (λ h. h.b) ts) (weighted_sum (λ h. h.c) ts) (weighted_sum (λ h. h.d) ts) p.x p.y p.z p.w

-- ---- its sign
-- a positive multiple of a number above 0, and a number at least 0
more_pos : (k s t : ℤ) → pos 0 <ℤ k → pos 0 <ℤ s → pos 0 ≤ℤ t → pos 0 <ℤ (k *ℤ s +ℤ t)
more_pos k s t p q r = search signs

-- no terms are not one to four
none_not_some : is_one_to_four 0 ≡ true → ⊥
none_not_some e = cc

-- a sum of multiples above 0, of one term or more, is above 0
sum_pos : (F : HalfSpace → ℤ) (ts : List Multiple) → is_one_to_four (length ts) ≡ true → ArePositive ts → AllByRecursion (λ h. pos 0 <ℤ F h) (half_spaces_of ts) → pos 0 <ℤ weighted_sum F ts
sum_pos F [] e p h = absurd (none_not_some e)
sum_pos F (t ∷ ts) e p h =
    more_pos t.factor (F t.of) (weighted_sum F ts) p.0 h.0
    (weighted_sum_nonneg F ts p.1 (all_map (λ h. pos 0 <ℤ F h) (λ h. pos 0 ≤ℤ F h) (λ h l. nonneg_of_pos_ℤ (F h) l) (half_spaces_of ts) h.1))

-- a number at most 0, times a weight above 0, is at most 0
not_positive : (d w : ℤ) → d ≤ℤ pos 0 → pos 0 <ℤ w → (d *ℤ w) ≤ℤ pos 0
not_positive d w n p =
    let m : pos 0 ≤ℤ neg_ℤ d = omega (arith, linear, n) in
    let c : pos 0 ≤ℤ (neg_ℤ d *ℤ w) = search signs in
    le_by_ring (d ∷ w ∷ []) c (search reify depth 40 fits 100000) tt

-- a number below 0, times a weight above 0, is below 0
is_negative_product : (d w : ℤ) → d <ℤ pos 0 → pos 0 <ℤ w → (d *ℤ w) <ℤ pos 0
is_negative_product d w n p =
    let m : pos 0 <ℤ neg_ℤ d = omega (arith, linear, n) in
    let c : pos 0 <ℤ (neg_ℤ d *ℤ w) = mul_pos_ℤ (neg_ℤ d) w m p in
    lt_by_ring (d ∷ w ∷ []) c (search reify depth 40 fits 100000) tt

-- ---- what the certificate says
-- the facts of a certificate
pub record Certificate (strict : Bool) (cell : List HalfSpace) (ts : List Multiple) : Type 0 where
  pub some : is_one_to_four (length ts) ≡ true
  pub terms : list_all (λ t. is_multiplier t.factor && is_listed t.of (with_cube cell)) ts ≡ true
  pub a : weighted_sum (λ h. h.a) ts ≡ pos 0
  pub b : weighted_sum (λ h. h.b) ts ≡ pos 0
  pub c : weighted_sum (λ h. h.c) ts ≡ pos 0
  pub contradiction : is_contradiction strict ts ≡ true

-- terms that pass the test have them
pub certificate-to : (strict : Bool) (cell : List HalfSpace) (ts : List Multiple) → is_outside_certificate strict cell ts ≡ true → Certificate strict cell ts
certificate-to strict cell ts e =
    let abc = and_first _ (is_contradiction strict ts) e in
    let ab = and_first _ (is_balanced ts) abc in
    let b = balanced-to ts (and_second _ (is_balanced ts) abc) in
    record {
      some = and_first (is_one_to_four (length ts)) _ ab;
      terms = and_second (is_one_to_four (length ts)) _ ab;
      a = b.a;
      b = b.b;
      c = b.c;
      contradiction = and_second _ (is_contradiction strict ts) e;
    }

-- the test of a term of a certificate
abbrev is_term : List HalfSpace → Multiple → Bool
is_term hs t = is_multiplier t.factor && is_listed t.of hs

-- the factors of the terms are above 0
terms_positive : (hs : List HalfSpace) (ts : List Multiple) → list_all (is_term hs) ts ≡ true → ArePositive ts
terms_positive hs ts e = list_all_is (is_term hs) (λ t. pos 0 <ℤ t.factor) (λ t k. multiplier-to t.factor (and_first (is_multiplier t.factor) _ k)) ts e

-- their half-spaces have what all of the list have
terms_have : (P : HalfSpace → Type 0) (hs : List HalfSpace) → AllByRecursion P hs → (ts : List Multiple) → list_all (is_term hs) ts ≡ true → AllByRecursion P (half_spaces_of ts)
terms_have P hs all [] e = tt
terms_have P hs all (t ∷ ts) e =
    let here = and_first (is_term hs t) (list_all (is_term hs) ts) e in
    (listed-to P t.of hs (and_second (is_multiplier t.factor) _ here) all, terms_have P hs all ts (and_second (is_term hs t) (list_all (is_term hs) ts) e))

-- a strict solution and a strict certificate contradict each other
never_strict : (cell : List HalfSpace) (p : RationalPoint) (ts : List Multiple) → IsSolution true cell p → Certificate true cell ts → ⊥
never_strict cell p ts s k =
    let all : AllByRecursion (λ h. pos 0 <ℤ side_value h p) (with_cube cell) = list_all_is (λ h. is_positive (side_value h p)) (λ h. pos 0 <ℤ side_value h p) (λ h e. positive_is (side_value h p) e) (with_cube cell) s.1 in
    let high = sum_pos (λ h. side_value h p) ts k.some (terms_positive (with_cube cell) ts k.terms) (terms_have (λ h. pos 0 <ℤ side_value h p) (with_cube cell) all ts k.terms) in
    let same = weighted_sum-side p ts in
    let last = last_only (weighted_sum (λ h. h.a) ts) (weighted_sum (λ h. h.b) ts) (weighted_sum (λ h. h.c) ts) (weighted_sum (λ h. h.d) ts) p.x p.y p.z p.w k.a k.b k.c in
    let low = not_positive (weighted_sum (λ h. h.d) ts) p.w (at_most_is (weighted_sum (λ h. h.d) ts) (pos 0) k.contradiction) s.0 in
    apart (weighted_sum (λ h. side_value h p) ts) _ high (same ∙ last) low
  where
    apart : (s l : ℤ) → pos 0 <ℤ s → s ≡ l → l ≤ℤ pos 0 → ⊥
    apart s l p e n = omega (arith, linear, p, e, n)

-- a weak solution and a weak certificate contradict each other
never_weak : (cell : List HalfSpace) (p : RationalPoint) (ts : List Multiple) → IsSolution false cell p → Certificate false cell ts → ⊥
never_weak cell p ts s k =
    let all : AllByRecursion (λ h. pos 0 ≤ℤ side_value h p) (with_cube cell) = list_all_is (λ h. is_nonnegative (side_value h p)) (λ h. pos 0 ≤ℤ side_value h p) (λ h e. at_most_is (pos 0) (side_value h p) e) (with_cube cell) s.1 in
    let high = weighted_sum_nonneg (λ h. side_value h p) ts (terms_positive (with_cube cell) ts k.terms) (terms_have (λ h. pos 0 ≤ℤ side_value h p) (with_cube cell) all ts k.terms) in
    let same = weighted_sum-side p ts in
    let last = last_only (weighted_sum (λ h. h.a) ts) (weighted_sum (λ h. h.b) ts) (weighted_sum (λ h. h.c) ts) (weighted_sum (λ h. h.d) ts) p.x p.y p.z p.w k.a k.b k.c in
    let low = is_negative_product (weighted_sum (λ h. h.d) ts) p.w (negative_is (weighted_sum (λ h. h.d) ts) k.contradiction) s.0 in
    apart (weighted_sum (λ h. side_value h p) ts) _ high (same ∙ last) low
  where
    apart : (s l : ℤ) → pos 0 ≤ℤ s → s ≡ l → l <ℤ pos 0 → ⊥
    apart s l p e n = omega (arith, linear, p, e, n)

-- so there are never both
pub never_both : (strict : Bool) (cell : List HalfSpace) (p : RationalPoint) (ts : List Multiple) → IsSolution strict cell p → is_outside_certificate strict cell ts ≡ true → ⊥
never_both true cell p ts s e = never_strict cell p ts s (certificate-to true cell ts e)
never_both false cell p ts s e = never_weak cell p ts s (certificate-to false cell ts e)
