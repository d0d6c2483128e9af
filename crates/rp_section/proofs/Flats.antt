-- Flat certificates: positive terms make one exactly where they do in lowest terms, and terms of no one sign make none.
use Rattle.std.proofs.Common.{◌≡◌, ℕ, ◌<◌, ℤ, pos, neg_ℤ, ◌<ℤ◌, Bool, true, false, ◌&&◌, ◌||◌, List, [], ◌∷◌, length, Some, None, refl, sym, ap, ◌∙◌, arith}
use Rattle.std.specs.List.{list_all}
use Rattle.rp_algebra.specs.Integer.{is_zero, is_positive, is_negative, gcd_of}
use Rattle.rp_algebra.proofs.Divisors.{DividesAll, gcd_of-divides, gcd_of-positive_head}
use Rattle.rp_algebra.proofs.Numbers.{above_not_zero}
use Rattle.rp_algebra.proofs.Tests.{and_first, is_positive_true, is_negative_true, false_unless, false_not_true}
use Rattle.rp_algebra.proofs.Listed.{list_all_true}
use Rattle.rp_geometry.specs.Geometry.{HalfSpace}
use Rattle.rp_geometry.specs.searches.Certificate.{Multiple, weighted_sum, is_multiplier}
use Rattle.rp_geometry.specs.searches.Elimination.{factors_of, reduced_terms, negated_terms, normal_terms}
use Rattle.rp_geometry.specs.sections.Trace.{has_trace, offset_at}
use Rattle.rp_geometry.specs.sections.Flat.{is_level_kind, is_trace_kind, is_flat_refutation, flat_terms_if}
use Rattle.rp_convex.proofs.Combination.{ArePositive}
use Rattle.rp_convex.proofs.LowestMultiples.{divided, divided_positive, weighted_sum-divided, negated_small}
use Rattle.rp_elim.specs.Factors.{AreFactorsSmall}
use Rattle.rp_elim.proofs.Scaled.{same_zero, same_at_most, positive_multipliers}
use Rattle.rp_elim.proofs.Signs.{negated_multipliers, from_quotients, small_multipliers, below}
use Rattle.rp_cert.specs.Section.{cancels_at}

-- ---- terms divided by a common divisor

-- they have traces where the terms do
same_traces : (g : ℕ) (ts : List Multiple) → list_all (λ t. has_trace t.of) (divided g ts) ≡ list_all (λ t. has_trace t.of) ts
same_traces g [] = refl
same_traces g (t ∷ ts) = ap (λ (b : Bool). has_trace t.of && b) (same_traces g ts)

-- they are of the first kind where the terms are
same_level : (g : ℕ) (z : ℤ) (ts : List Multiple) → is_level_kind z (divided g ts) ≡ is_level_kind z ts
same_level g z [] = refl
same_level g z (t ∷ []) = refl
same_level g z (t ∷ u ∷ ts) = refl

module _ (g : ℕ) (ts : List Multiple) (p : 0 < g) (d : DividesAll g (factors_of ts)) (q : ArePositive ts) where
  -- they make a flat certificate where the terms cancel
  same_flat : (z : ℤ) → is_flat_refutation z (divided g ts) ≡ cancels_at z ts
  same_flat z =
      let zero = λ (F : HalfSpace → ℤ). same_zero g p (weighted_sum F (divided g ts)) (weighted_sum F ts) (weighted_sum-divided g F ts d q) in
      let most = same_at_most g p (weighted_sum (offset_at z) (divided g ts)) (weighted_sum (offset_at z) ts) (weighted_sum-divided g (offset_at z) ts d q) in
      let positive = list_all_true (λ t. is_positive t.factor) (λ t. pos 0 <ℤ t.factor) (λ t r. is_positive_true t.factor r) (divided g ts) (divided_positive g ts d q) in
      λ i. positive i && (zero (λ h. h.a) i && zero (λ h. h.b) i) && (same_level g z ts i || (same_traces g ts i && most i))

-- terms in lowest terms make a flat certificate where they cancel
reduced_flat : (z : ℤ) (ts : List Multiple) → 0 < length ts → list_all (λ t. is_multiplier t.factor) ts ≡ true → is_flat_refutation z (reduced_terms ts) ≡ cancels_at z ts
unfolding reduced_terms
reduced_flat z [] n e = absurd (omega arith)
reduced_flat z (t ∷ ts) n e =
    let q = positive_multipliers (t ∷ ts) e in
    same_flat (gcd_of (factors_of (t ∷ ts))) (t ∷ ts) (gcd_of-positive_head t.factor (factors_of ts) (above_not_zero t.factor q.0)) (gcd_of-divides (factors_of (t ∷ ts))) q z

-- they are given where they cancel
pub flat_given : (z : ℤ) (ts : List Multiple) → 0 < length ts → list_all (λ t. is_multiplier t.factor) ts ≡ true → cancels_at z ts ≡ true → flat_terms_if z (reduced_terms ts) ≡ Some (reduced_terms ts)
flat_given z ts n m e = λ i. elim ((reduced_flat z ts n m ∙ e) i) [ true ↦ Some (reduced_terms ts) | false ↦ None ]

-- else there are none
pub flat_none : (z : ℤ) (ts : List Multiple) → 0 < length ts → list_all (λ t. is_multiplier t.factor) ts ≡ true → cancels_at z ts ≡ false → flat_terms_if z (reduced_terms ts) ≡ None
flat_none z ts n m e = λ i. elim ((reduced_flat z ts n m ∙ e) i) [ true ↦ Some (reduced_terms ts) | false ↦ None ]

-- ---- terms of either sign

-- terms of which the negatives have multipliers are negated
pub normal_negated : (ts : List Multiple) → list_all (λ t. is_multiplier (neg_ℤ t.factor)) ts ≡ true → 0 < length ts → normal_terms ts ≡ reduced_terms (negated_terms ts)
normal_negated [] e n = absurd (omega arith)
normal_negated (t ∷ ts) e n =
    λ i. elim (is_negative_true t.factor (below t.factor (and_first (is_multiplier (neg_ℤ t.factor)) _ e)) i) [ true ↦ reduced_terms (negated_terms (t ∷ ts)) | false ↦ reduced_terms (t ∷ ts) ]

-- terms that make a flat certificate in lowest terms are positive
from_reduced : (z : ℤ) (ts : List Multiple) → is_flat_refutation z (reduced_terms ts) ≡ true → list_all (λ t. is_positive t.factor) ts ≡ true
unfolding reduced_terms
from_reduced z ts e =
    let us = reduced_terms ts in
    from_quotients (gcd_of (factors_of ts)) ts (gcd_of-divides (factors_of ts))
    (and_first (list_all (λ (t : Multiple). is_positive t.factor) us) (is_zero (weighted_sum (λ h. h.a) us) && is_zero (weighted_sum (λ h. h.b) us)) (and_first _ (is_level_kind z us || is_trace_kind z us) e))

-- terms that are neither all positive nor all negative make none
not_flat : (z : ℤ) (t : Multiple) (ts : List Multiple) → (list_all (λ t. is_positive t.factor) (t ∷ ts) ≡ true → ⊥) → (list_all (λ t. is_positive t.factor) (negated_terms (t ∷ ts)) ≡ true → ⊥) → is_flat_refutation z (normal_terms (t ∷ ts)) ≡ true → ⊥
not_flat z t ts p n =
    elim (is_negative t.factor) as (λ b. is_flat_refutation z (elim b [ true ↦ reduced_terms (negated_terms (t ∷ ts)) | false ↦ reduced_terms (t ∷ ts) ]) ≡ true → ⊥) [
      | true ↦ λ e. n (from_reduced z (negated_terms (t ∷ ts)) e)
      | false ↦ λ e. p (from_reduced z (t ∷ ts) e)
    ]

-- so small terms that are neither all multipliers nor all negatives of such make none
pub no_flat : (z : ℤ) (ts : List Multiple) → 0 < length ts → AreFactorsSmall ts → list_all (λ t. is_multiplier t.factor) ts ≡ false → list_all (λ t. is_multiplier (neg_ℤ t.factor)) ts ≡ false → flat_terms_if z (normal_terms ts) ≡ None
no_flat z [] l s p n = absurd (omega arith)
no_flat z (t ∷ ts) l s p n =
    let us = normal_terms (t ∷ ts) in
    λ i. elim (false_unless (is_flat_refutation z us) (not_flat z t ts
    (λ e. false_not_true _ (small_multipliers (t ∷ ts) s e) p)
    (λ e. false_not_true _ (sym (negated_multipliers (t ∷ ts)) ∙ small_multipliers (negated_terms (t ∷ ts)) (negated_small (t ∷ ts) s) e) n)) i) [ true ↦ Some us | false ↦ None ]
