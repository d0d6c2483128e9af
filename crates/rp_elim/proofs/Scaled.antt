-- Positive terms refute exactly where they do in lowest terms.
use Rattle.std.proofs.Common.{◌≡◌, ℕ, ◌<◌, ℤ, pos, ◌*ℤ◌, ◌<ℤ◌, Bool, true, false, ◌&&◌, List, [], ◌∷◌, length, Some, None, refl, sym, ap, ◌∙◌, arith}
use Rattle.std.specs.Prelude.{int_le}
use Rattle.std.specs.List.{list_all}
use Rattle.std.proofs.lemmas.Int.{ints}
use Rattle.std.proofs.Math.IntN.{*ℤ-zero}
use Rattle.rp_algebra.specs.Integer.{is_zero, is_positive, is_negative, gcd_of}
use Rattle.rp_algebra.proofs.IntLaws.{mul_le_mul_left_ℤ, mul_lt_mul_left_ℤ, le_of_mul_le_left_ℤ, lt_of_mul_lt_left_ℤ, cancel_mul_left_ℤ, nat_nonneg_ℤ}
use Rattle.rp_algebra.proofs.Divisors.{DividesAll, gcd_of-divides, gcd_of-positive_head}
use Rattle.rp_algebra.proofs.Numbers.{above_not_zero}
use Rattle.rp_algebra.proofs.Tests.{is_positive_true, zero_is, is_zero_true, at_most_is, at_most_true, negative_is, is_negative_true, same_test}
use Rattle.rp_algebra.proofs.Listed.{list_all_true, list_all_is}
use Rattle.rp_geometry.specs.Geometry.{HalfSpace}
use Rattle.rp_geometry.specs.searches.Certificate.{Multiple, weighted_sum, is_balanced, is_contradiction, is_multiplier}
use Rattle.rp_geometry.specs.searches.Elimination.{factors_of, reduced_terms, is_refutation, terms_if}
use Rattle.rp_convex.proofs.Combination.{ArePositive}
use Rattle.rp_convex.proofs.Tests.{multiplier-to}
use Rattle.rp_convex.proofs.LowestMultiples.{divided, divided_positive, weighted_sum-divided}

-- ---- a number and its positive multiple
module _ (g : ℕ) (p : 0 < g) (s t : ℤ) (e : pos g *ℤ s ≡ t) where
  -- the factor is above 0
  above : pos 0 <ℤ pos g
  above = omega (arith, ints, p)

  -- both are 0 or neither is
  pub same_zero : is_zero s ≡ is_zero t
  same_zero =
      same_test (is_zero s) (is_zero t)
      (λ z. is_zero_true t (sym e ∙ ap (λ (v : ℤ). pos g *ℤ v) (zero_is s z) ∙ *ℤ-zero (pos g)))
      (λ z. is_zero_true s (cancel_mul_left_ℤ (pos g) s (pos 0) above (e ∙ zero_is t z ∙ sym (*ℤ-zero (pos g)))))

  -- both are at most 0 or neither is
  pub same_at_most : int_le s (pos 0) ≡ int_le t (pos 0)
  same_at_most =
      same_test (int_le s (pos 0)) (int_le t (pos 0))
      (λ z. at_most_true t (pos 0) (rw (← e, ← *ℤ-zero (pos g)) (mul_le_mul_left_ℤ (pos g) s (pos 0) (nat_nonneg_ℤ g) (at_most_is s (pos 0) z))))
      (λ z. at_most_true s (pos 0) (le_of_mul_le_left_ℤ (pos g) s (pos 0) above (rw (e, *ℤ-zero (pos g)) (at_most_is t (pos 0) z))))

  -- both are below 0 or neither is
  pub same_negative : is_negative s ≡ is_negative t
  same_negative =
      same_test (is_negative s) (is_negative t)
      (λ z. is_negative_true t (rw (← e, ← *ℤ-zero (pos g)) (mul_lt_mul_left_ℤ (pos g) s (pos 0) above (negative_is s z))))
      (λ z. is_negative_true s (lt_of_mul_lt_left_ℤ (pos g) s (pos 0) (nat_nonneg_ℤ g) (rw (e, *ℤ-zero (pos g)) (negative_is t z))))

-- ---- terms divided by a common divisor
module _ (g : ℕ) (ts : List Multiple) (p : 0 < g) (d : DividesAll g (factors_of ts)) (q : ArePositive ts) where
  -- the sums are balanced where those of the terms are
  same_balance : is_balanced (divided g ts) ≡ is_balanced ts
  same_balance =
      let zero = λ (F : HalfSpace → ℤ). same_zero g p (weighted_sum F (divided g ts)) (weighted_sum F ts) (weighted_sum-divided g F ts d q) in
      λ i. zero (λ h. h.a) i && zero (λ h. h.b) i && zero (λ h. h.c) i

  -- they contradict where the terms do
  pub same_contradiction : (strict : Bool) → is_contradiction strict (divided g ts) ≡ is_contradiction strict ts
  same_contradiction true = same_at_most g p (weighted_sum (λ h. h.d) (divided g ts)) (weighted_sum (λ h. h.d) ts) (weighted_sum-divided g (λ h. h.d) ts d q)
  same_contradiction false = same_negative g p (weighted_sum (λ h. h.d) (divided g ts)) (weighted_sum (λ h. h.d) ts) (weighted_sum-divided g (λ h. h.d) ts d q)

  -- they refute where the terms are balanced and contradict
  same_refutation : (strict : Bool) → is_refutation strict (divided g ts) ≡ (is_balanced ts && is_contradiction strict ts)
  same_refutation strict =
      let positive = list_all_true (λ t. is_positive t.factor) (λ t. pos 0 <ℤ t.factor) (λ t r. is_positive_true t.factor r) (divided g ts) (divided_positive g ts d q) in
      λ i. positive i && same_balance i && same_contradiction strict i

-- multipliers are positive
pub positive_multipliers : (ts : List Multiple) → list_all (λ t. is_multiplier t.factor) ts ≡ true → ArePositive ts
positive_multipliers ts e = list_all_is (λ t. is_multiplier t.factor) (λ t. pos 0 <ℤ t.factor) (λ t r. multiplier-to t.factor r) ts e

-- terms in lowest terms refute where they are balanced and contradict
pub reduced_refutation : (strict : Bool) (ts : List Multiple) → 0 < length ts → list_all (λ t. is_multiplier t.factor) ts ≡ true → is_refutation strict (reduced_terms ts) ≡ (is_balanced ts && is_contradiction strict ts)
unfolding reduced_terms
reduced_refutation strict [] n e = absurd (omega arith)
reduced_refutation strict (t ∷ ts) n e =
    let q = positive_multipliers (t ∷ ts) e in
    same_refutation (gcd_of (factors_of (t ∷ ts))) (t ∷ ts) (gcd_of-positive_head t.factor (factors_of ts) (above_not_zero t.factor q.0)) (gcd_of-divides (factors_of (t ∷ ts))) q strict

-- two tests in either order
exchanged : (a b : Bool) → (a && b) ≡ (b && a)
exchanged true true = refl
exchanged true false = refl
exchanged false true = refl
exchanged false false = refl

-- terms in lowest terms are given where they are balanced and contradict
pub reduced_given : (strict : Bool) (ts : List Multiple) → 0 < length ts → list_all (λ t. is_multiplier t.factor) ts ≡ true → (is_contradiction strict ts && is_balanced ts) ≡ true → terms_if strict (reduced_terms ts) ≡ Some (reduced_terms ts)
reduced_given strict ts n m e = λ i. elim ((reduced_refutation strict ts n m ∙ exchanged (is_balanced ts) (is_contradiction strict ts) ∙ e) i) [ true ↦ Some (reduced_terms ts) | false ↦ None ]

-- else there are none
pub reduced_none : (strict : Bool) (ts : List Multiple) → 0 < length ts → list_all (λ t. is_multiplier t.factor) ts ≡ true → (is_contradiction strict ts && is_balanced ts) ≡ false → terms_if strict (reduced_terms ts) ≡ None
reduced_none strict ts n m e = λ i. elim ((reduced_refutation strict ts n m ∙ exchanged (is_balanced ts) (is_contradiction strict ts) ∙ e) i) [ true ↦ Some (reduced_terms ts) | false ↦ None ]
