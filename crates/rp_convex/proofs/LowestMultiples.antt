-- Terms in lowest terms: dividing all factors by their greatest common divisor keeps a refutation.
use Rattle.std.proofs.Common.{◌≡◌, ℕ, ◌<◌, ℤ, pos, neg_ℤ, ◌+ℤ◌, ◌*ℤ◌, ◌<ℤ◌, Bool, true, false, List, [], ◌∷◌, map, refl, sym, ap, ◌∙◌, subst, arith}
use Rattle.std.specs.List.{AllByRecursion}
use Rattle.std.proofs.lemmas.Int.{ints}
use Rattle.std.proofs.Math.IntN.{*ℤ-zero}
use Rattle.rp_algebra.specs.Integer.{is_positive, is_negative, gcd_of, reduced_by}
use Rattle.rp_geometry.specs.Geometry.{HalfSpace}
use Rattle.rp_geometry.specs.searches.Certificate.{Multiple, weighted_sum, is_balanced, is_contradiction}
use Rattle.rp_geometry.specs.searches.Elimination.{multiple_of, factors_of, half_spaces_of, reduced_terms, negated_terms, normal_terms, is_refutation}
use Rattle.rp_algebra.specs.Within.{IsWithin}
use Rattle.rp_algebra.proofs.IntLaws.{linear, cancel_mul_left_ℤ, nat_nonneg_ℤ, nonneg_of_pos_ℤ, le_of_mul_le_left_ℤ, lt_of_mul_lt_left_ℤ}
use Rattle.rp_algebra.proofs.Reify.{by_ring_at, reify}
use Rattle.rp_convex.proofs.Combination.{ArePositive, greatest_minor}
use Rattle.rp_algebra.proofs.Divisors.{DividesAll, gcd_of-divides, gcd_of-positive_head}
use Rattle.rp_algebra.proofs.LowestTerms.{exact_quotient, quotient_positive, quotient_within}
use Rattle.rp_algebra.proofs.Numbers.{above_not_zero, opposite_within}
use Rattle.rp_algebra.proofs.Tests.{and_true, is_positive_true, is_negative_true, is_negative_false, negative_is, at_most_true, at_most_is}
use Rattle.rp_algebra.proofs.Listed.{list_all_true}
use Rattle.rp_convex.proofs.Tests.{balanced-from}

-- the factors divided by g
abbrev pub divided : ℕ → List Multiple → List Multiple
divided g ts = map (λ t. multiple_of (reduced_by g t.factor) t.of) ts

-- divided terms have the same half-spaces
pub half_spaces_of-divided : (g : ℕ) (ts : List Multiple) → half_spaces_of (divided g ts) ≡ half_spaces_of ts
half_spaces_of-divided g [] = refl
half_spaces_of-divided g (t ∷ ts) = ap (λ hs. t.of ∷ hs) (half_spaces_of-divided g ts)

-- factors within the bound of a minor
abbrev pub AreFactorsSmall : List Multiple → Type 0
AreFactorsSmall ts = AllByRecursion (λ t. IsWithin greatest_minor t.factor) ts

-- divided factors are small
pub divided_small : (g : ℕ) (ts : List Multiple) → AreFactorsSmall ts → AreFactorsSmall (divided g ts)
divided_small g [] h = tt
divided_small g (t ∷ ts) h = (quotient_within greatest_minor g t.factor h.0, divided_small g ts h.1)

-- ---- positive factors
-- divided factors are positive
pub divided_positive : (g : ℕ) (ts : List Multiple) → DividesAll g (factors_of ts) → ArePositive ts → ArePositive (divided g ts)
divided_positive g [] d p = tt
divided_positive g (t ∷ ts) d p = (quotient_positive g t.factor d.0 p.0, divided_positive g ts d.1 p.1)

-- g times the sum of one divided term more
divided_more : (g q f s : ℤ) → g *ℤ (q *ℤ f +ℤ s) ≡ (g *ℤ q) *ℤ f +ℤ g *ℤ s
divided_more g q f s = by_ring_at (g ∷ q ∷ f ∷ s ∷ []) (search reify depth 40 fits 100000) tt

-- g times the sum of the divided terms is the sum
pub weighted_sum-divided : (g : ℕ) (F : HalfSpace → ℤ) (ts : List Multiple) → DividesAll g (factors_of ts) → ArePositive ts → pos g *ℤ weighted_sum F (divided g ts) ≡ weighted_sum F ts
weighted_sum-divided g F [] d p = *ℤ-zero (pos g)
weighted_sum-divided g F (t ∷ ts) d p =
    divided_more (pos g) (reduced_by g t.factor) (F t.of) (weighted_sum F (divided g ts))
    ∙ (λ i. exact_quotient g t.factor d.0 i *ℤ F t.of +ℤ weighted_sum-divided g F ts d.1 p.1 i)

-- ---- a refutation, as a fact
-- positive factors, sums that are 0, and a contradiction
pub record Refutes (strict : Bool) (ts : List Multiple) : Type 0 where
  pub positive : ArePositive ts
  pub a : weighted_sum (λ h. h.a) ts ≡ pos 0
  pub b : weighted_sum (λ h. h.b) ts ≡ pos 0
  pub c : weighted_sum (λ h. h.c) ts ≡ pos 0
  pub contradiction : is_contradiction strict ts ≡ true

-- terms that refute pass the test
pub refutation-from : (strict : Bool) (ts : List Multiple) → Refutes strict ts → is_refutation strict ts ≡ true
refutation-from strict ts r =
    and_true _ (is_contradiction strict ts)
    (and_true _ (is_balanced ts) (list_all_true (λ t. is_positive t.factor) (λ t. pos 0 <ℤ t.factor) (λ t p. is_positive_true t.factor p) ts r.positive) (balanced-from ts r.a r.b r.c))
    r.contradiction

-- ---- division keeps it
-- a number whose multiple is 0 is 0
zero_divided : (g : ℕ) (s t : ℤ) → 0 < g → pos g *ℤ s ≡ t → t ≡ pos 0 → s ≡ pos 0
zero_divided g s t p e f = cancel_mul_left_ℤ (pos g) s (pos 0) (omega (arith, ints, p)) (e ∙ f ∙ sym (*ℤ-zero (pos g)))

-- divided terms contradict
contradiction_divided : (strict : Bool) (g : ℕ) (ts : List Multiple) → 0 < g → DividesAll g (factors_of ts) → ArePositive ts → is_contradiction strict ts ≡ true → is_contradiction strict (divided g ts) ≡ true
contradiction_divided true g ts p d q e =
    let same = weighted_sum-divided g (λ h. h.d) ts d q in
    let low = at_most_is (weighted_sum (λ h. h.d) ts) (pos 0) e in
    at_most_true (weighted_sum (λ h. h.d) (divided g ts)) (pos 0) (le_of_mul_le_left_ℤ (pos g) (weighted_sum (λ h. h.d) (divided g ts)) (pos 0) (omega (arith, ints, p)) (rw (same, *ℤ-zero (pos g)) low))
contradiction_divided false g ts p d q e =
    let same = weighted_sum-divided g (λ h. h.d) ts d q in
    let low = negative_is (weighted_sum (λ h. h.d) ts) e in
    is_negative_true (weighted_sum (λ h. h.d) (divided g ts)) (lt_of_mul_lt_left_ℤ (pos g) (weighted_sum (λ h. h.d) (divided g ts)) (pos 0) (nat_nonneg_ℤ g) (rw (same, *ℤ-zero (pos g)) low))

-- divided terms refute
pub refutes_divided : (strict : Bool) (g : ℕ) (ts : List Multiple) → 0 < g → DividesAll g (factors_of ts) → Refutes strict ts → Refutes strict (divided g ts)
refutes_divided strict g ts p d r = record {
  positive = divided_positive g ts d r.positive;
  a = zero_divided g _ _ p (weighted_sum-divided g (λ h. h.a) ts d r.positive) r.a;
  b = zero_divided g _ _ p (weighted_sum-divided g (λ h. h.b) ts d r.positive) r.b;
  c = zero_divided g _ _ p (weighted_sum-divided g (λ h. h.c) ts d r.positive) r.c;
  contradiction = contradiction_divided strict g ts p d r.positive r.contradiction;
}

-- terms in lowest terms refute
pub refutes_reduced : (strict : Bool) (t : Multiple) (ts : List Multiple) → Refutes strict (t ∷ ts) → Refutes strict (reduced_terms (t ∷ ts))
unfolding reduced_terms
refutes_reduced strict t ts r =
    let d = gcd_of-divides (factors_of (t ∷ ts)) in
    refutes_divided strict (gcd_of (factors_of (t ∷ ts))) (t ∷ ts) (gcd_of-positive_head t.factor (factors_of ts) (above_not_zero t.factor r.positive.0)) d r

-- ---- the normal form of terms that refute, or whose negatives do
-- the normal form of terms that refute refutes
pub refutes_normal : (strict : Bool) (t : Multiple) (ts : List Multiple) → Refutes strict (t ∷ ts) → Refutes strict (normal_terms (t ∷ ts))
refutes_normal strict t ts r =
    subst (λ us. Refutes strict us) (λ i. elim (sym (is_negative_false t.factor (nonneg_of_pos_ℤ t.factor r.positive.0)) i) [ true ↦ reduced_terms (negated_terms (t ∷ ts)) | false ↦ reduced_terms (t ∷ ts) ]) (refutes_reduced strict t ts r)

-- a number with a positive negative is below 0
negated_positive : (v : ℤ) → pos 0 <ℤ neg_ℤ v → is_negative v ≡ true
negated_positive v h = is_negative_true v (omega (arith, linear, h))

-- the normal form of terms whose negatives refute refutes
pub refutes_normal_negated : (strict : Bool) (t : Multiple) (ts : List Multiple) → Refutes strict (negated_terms (t ∷ ts)) → Refutes strict (normal_terms (t ∷ ts))
refutes_normal_negated strict t ts r =
    subst (λ us. Refutes strict us) (λ i. elim (sym (negated_positive t.factor r.positive.0) i) [ true ↦ reduced_terms (negated_terms (t ∷ ts)) | false ↦ reduced_terms (t ∷ ts) ])
    (refutes_reduced strict (multiple_of (neg_ℤ t.factor) t.of) (negated_terms ts) r)

-- ---- the normal form has the same half-spaces, and factors as small
-- negated terms have the same half-spaces
half_spaces_of-negated : (ts : List Multiple) → half_spaces_of (negated_terms ts) ≡ half_spaces_of ts
half_spaces_of-negated [] = refl
half_spaces_of-negated (t ∷ ts) = ap (λ hs. t.of ∷ hs) (half_spaces_of-negated ts)

-- negated factors are small
pub negated_small : (ts : List Multiple) → AreFactorsSmall ts → AreFactorsSmall (negated_terms ts)
negated_small [] h = tt
negated_small (t ∷ ts) h = (opposite_within greatest_minor t.factor h.0, negated_small ts h.1)

-- terms in lowest terms have the same half-spaces
half_spaces_of-reduced : (ts : List Multiple) → half_spaces_of (reduced_terms ts) ≡ half_spaces_of ts
unfolding reduced_terms
half_spaces_of-reduced ts = half_spaces_of-divided (gcd_of (factors_of ts)) ts

-- factors in lowest terms are small
reduced_small : (ts : List Multiple) → AreFactorsSmall ts → AreFactorsSmall (reduced_terms ts)
unfolding reduced_terms
reduced_small ts h = divided_small (gcd_of (factors_of ts)) ts h

-- the normal form has the same half-spaces
pub half_spaces_of-normal : (ts : List Multiple) → half_spaces_of (normal_terms ts) ≡ half_spaces_of ts
half_spaces_of-normal [] = refl
half_spaces_of-normal (t ∷ ts) =
    elim (is_negative t.factor) as (λ b. half_spaces_of (elim b [ true ↦ reduced_terms (negated_terms (t ∷ ts)) | false ↦ reduced_terms (t ∷ ts) ]) ≡ half_spaces_of (t ∷ ts)) [
      | true ↦ half_spaces_of-reduced (negated_terms (t ∷ ts)) ∙ half_spaces_of-negated (t ∷ ts)
      | false ↦ half_spaces_of-reduced (t ∷ ts)
    ]

-- the factors of the normal form are small
pub normal_small : (ts : List Multiple) → AreFactorsSmall ts → AreFactorsSmall (normal_terms ts)
normal_small [] h = tt
normal_small (t ∷ ts) h =
    elim (is_negative t.factor) as (λ b. AreFactorsSmall (elim b [ true ↦ reduced_terms (negated_terms (t ∷ ts)) | false ↦ reduced_terms (t ∷ ts) ])) [
      | true ↦ reduced_small (negated_terms (t ∷ ts)) (negated_small (t ∷ ts) h)
      | false ↦ reduced_small (t ∷ ts) h
    ]
