-- Terms in normal form: only where all multipliers have one sign can they refute.
use Rattle.std.proofs.Common.{◌≡◌, ℕ, ◌<◌, ℤ, pos, neg_ℤ, ◌≤ℤ◌, ◌<ℤ◌, Bool, true, false, ◌&&◌, List, [], ◌∷◌, length, ⊎_elim, Some, None, refl, sym, ap, ◌∙◌, arith}
use Rattle.std.specs.List.{list_all}
use Rattle.rp_algebra.specs.Integer.{is_positive, is_negative, gcd_of, reduced_by}
use Rattle.rp_algebra.proofs.IntLaws.{linear, le_or_lt_ℤ, mul_nonneg_ℤ, nat_nonneg_ℤ, nonneg_of_pos_ℤ}
use Rattle.rp_algebra.proofs.Divisors.{DividesAll, gcd_of-divides, gcd_of-positive_head}
use Rattle.rp_algebra.proofs.Listed.{list_all_is}
use Rattle.rp_algebra.proofs.Numbers.{above_not_zero}
use Rattle.rp_algebra.proofs.LowestTerms.{exact_quotient, quotient_of_zero}
use Rattle.rp_algebra.proofs.Tests.{and_first, and_second, and_true, false_unless, false_not_true, positive_is, is_positive_true}
use Rattle.rp_geometry.specs.searches.Certificate.{Multiple, is_balanced, is_contradiction, is_multiplier}
use Rattle.rp_geometry.specs.searches.Elimination.{multiple_of, factors_of, reduced_terms, negated_terms, normal_terms, is_refutation, terms_if}
use Rattle.rp_convex.proofs.Tests.{multiplier-from, multiplier-to}
use Rattle.rp_convex.proofs.LowestMultiples.{divided, negated_small}
use Rattle.rp_elim.specs.Factors.{AreFactorsSmall}
use Rattle.rp_elim.proofs.Scaled.{same_contradiction}

-- a number whose negative is a multiplier is below 0
pub below : (v : ℤ) → is_multiplier (neg_ℤ v) ≡ true → v <ℤ pos 0
below v e = let h = multiplier-to (neg_ℤ v) e in omega (arith, linear, h)

-- negated terms have multipliers where the negatives are multipliers
pub negated_multipliers : (ts : List Multiple) → list_all (λ t. is_multiplier t.factor) (negated_terms ts) ≡ list_all (λ t. is_multiplier (neg_ℤ t.factor)) ts
negated_multipliers [] = refl
negated_multipliers (t ∷ ts) = ap (λ b. is_multiplier (neg_ℤ t.factor) && b) (negated_multipliers ts)

-- ---- terms whose quotients are positive
-- a number with a positive quotient by a divisor is above 0
from_quotient : (g : ℕ) (v : ℤ) → DividesAll g (v ∷ []) → pos 0 <ℤ reduced_by g v → pos 0 <ℤ v
from_quotient g v d h =
    ⊎_elim
    (λ low. absurd (no_quotient low))
    (λ up. up)
    (le_or_lt_ℤ v (pos 0))
  where
    no_quotient : v ≤ℤ pos 0 → ⊥
    no_quotient low =
        let same = exact_quotient g v d.0 in
        let up = mul_nonneg_ℤ (pos g) (reduced_by g v) (nat_nonneg_ℤ g) (nonneg_of_pos_ℤ (reduced_by g v) h) in
        let zero : v ≡ pos 0 = omega (arith, linear, same, up, low) in
        let none : reduced_by g v ≡ pos 0 = ap (λ (w : ℤ). reduced_by g w) zero ∙ quotient_of_zero g in
        omega (arith, linear, none, h)

-- terms with positive quotients are positive
pub from_quotients : (g : ℕ) (ts : List Multiple) → DividesAll g (factors_of ts) → list_all (λ t. is_positive t.factor) (divided g ts) ≡ true → list_all (λ t. is_positive t.factor) ts ≡ true
from_quotients g [] d e = refl
from_quotients g (t ∷ ts) d e =
    let rest = list_all (λ (u : Multiple). is_positive u.factor) (divided g ts) in
    let h = positive_is (reduced_by g t.factor) (and_first (is_positive (reduced_by g t.factor)) rest e) in
    and_true (is_positive t.factor) (list_all (λ (u : Multiple). is_positive u.factor) ts)
    (is_positive_true t.factor (from_quotient g t.factor (d.0, tt) h))
    (from_quotients g ts d.1 (and_second (is_positive (reduced_by g t.factor)) rest e))

-- terms that refute in lowest terms are positive
from_reduced : (strict : Bool) (ts : List Multiple) → is_refutation strict (reduced_terms ts) ≡ true → list_all (λ t. is_positive t.factor) ts ≡ true
unfolding reduced_terms
from_reduced strict ts e =
    let us = reduced_terms ts in
    from_quotients (gcd_of (factors_of ts)) ts (gcd_of-divides (factors_of ts)) (and_first (list_all (λ (t : Multiple). is_positive t.factor) us) (is_balanced us) (and_first _ (is_contradiction strict us) e))

-- small positive terms have multipliers
pub small_multipliers : (ts : List Multiple) → AreFactorsSmall ts → list_all (λ t. is_positive t.factor) ts ≡ true → list_all (λ t. is_multiplier t.factor) ts ≡ true
small_multipliers [] s e = refl
small_multipliers (t ∷ ts) s e =
    let rest = list_all (λ (u : Multiple). is_positive u.factor) ts in
    and_true (is_multiplier t.factor) (list_all (λ (u : Multiple). is_multiplier u.factor) ts)
    (multiplier-from t.factor (positive_is t.factor (and_first (is_positive t.factor) rest e)) s.0)
    (small_multipliers ts s.1 (and_second (is_positive t.factor) rest e))

-- and they contradict
contradicting : (strict : Bool) (t : Multiple) (ts : List Multiple) → is_refutation strict (reduced_terms (t ∷ ts)) ≡ true → is_contradiction strict (t ∷ ts) ≡ true
unfolding reduced_terms
contradicting strict t ts e =
    let q = list_all_is (λ u. is_positive u.factor) (λ u. pos 0 <ℤ u.factor) (λ u r. positive_is u.factor r) (t ∷ ts) (from_reduced strict (t ∷ ts) e) in
    let p = gcd_of-positive_head t.factor (factors_of ts) (above_not_zero t.factor q.0) in
    sym (same_contradiction (gcd_of (factors_of (t ∷ ts))) (t ∷ ts) p (gcd_of-divides (factors_of (t ∷ ts))) q strict)
    ∙ and_second _ (is_contradiction strict (reduced_terms (t ∷ ts))) e

-- ---- terms of no one sign
-- terms that contradict neither as positive ones nor as negative ones do not refute
not_refuting : (strict : Bool) (t : Multiple) (ts : List Multiple)
    → (list_all (λ t. is_positive t.factor) (t ∷ ts) ≡ true → is_contradiction strict (t ∷ ts) ≡ true → ⊥)
    → (list_all (λ t. is_positive t.factor) (negated_terms (t ∷ ts)) ≡ true → is_contradiction strict (negated_terms (t ∷ ts)) ≡ true → ⊥)
    → is_refutation strict (normal_terms (t ∷ ts)) ≡ true → ⊥
not_refuting strict t ts p n =
    elim (is_negative t.factor) as (λ b. is_refutation strict (elim b [ true ↦ reduced_terms (negated_terms (t ∷ ts)) | false ↦ reduced_terms (t ∷ ts) ]) ≡ true → ⊥) [
      | true ↦ λ e. n (from_reduced strict (negated_terms (t ∷ ts)) e) (contradicting strict (multiple_of (neg_ℤ t.factor) t.of) (negated_terms ts) e)
      | false ↦ λ e. p (from_reduced strict (t ∷ ts) e) (contradicting strict t ts e)
    ]

-- then there is no refutation
pub unfit_refutation : (strict : Bool) (t : Multiple) (ts : List Multiple)
    → (list_all (λ t. is_positive t.factor) (t ∷ ts) ≡ true → is_contradiction strict (t ∷ ts) ≡ true → ⊥)
    → (list_all (λ t. is_positive t.factor) (negated_terms (t ∷ ts)) ≡ true → is_contradiction strict (negated_terms (t ∷ ts)) ≡ true → ⊥)
    → terms_if strict (normal_terms (t ∷ ts)) ≡ None
unfit_refutation strict t ts p n =
    let us = normal_terms (t ∷ ts) in
    λ i. elim (false_unless (is_refutation strict us) (not_refuting strict t ts p n) i) [ true ↦ Some us | false ↦ None ]

-- nor is there where terms are neither all positive nor all negative
pub mixed_refutation : (strict : Bool) (t : Multiple) (ts : List Multiple) → (list_all (λ t. is_positive t.factor) (t ∷ ts) ≡ true → ⊥) → (list_all (λ t. is_positive t.factor) (negated_terms (t ∷ ts)) ≡ true → ⊥) → terms_if strict (normal_terms (t ∷ ts)) ≡ None
mixed_refutation strict t ts p n = unfit_refutation strict t ts (λ e c. p e) (λ e c. n e)

-- nor is there where small terms are neither all multipliers nor all negatives of such
pub no_refutation : (strict : Bool) (ts : List Multiple) → 0 < length ts → AreFactorsSmall ts → list_all (λ t. is_multiplier t.factor) ts ≡ false → list_all (λ t. is_multiplier (neg_ℤ t.factor)) ts ≡ false → terms_if strict (normal_terms ts) ≡ None
no_refutation strict [] l s p n = absurd (omega arith)
no_refutation strict (t ∷ ts) l s p n =
    mixed_refutation strict t ts
    (λ e. false_not_true _ (small_multipliers (t ∷ ts) s e) p)
    (λ e. false_not_true _ (sym (negated_multipliers (t ∷ ts)) ∙ small_multipliers (negated_terms (t ∷ ts)) (negated_small (t ∷ ts) s) e) n)
