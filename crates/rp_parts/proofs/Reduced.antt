-- A half-space in lowest terms holds the same points, and is kept.
use Rattle.std.proofs.Common.{◌≡◌, ℕ, ◌≤◌, false, ◌&&◌, ◌||◌, ℤ, pos, ◌+ℤ◌, ◌*ℤ◌, ◌<ℤ◌, nat_abs, [], ◌∷◌, sym, ap, ◌∙◌, arith}
use Rattle.std.proofs.Math.IntN.{*ℤ-zero}
use Rattle.rp_algebra.specs.Integer.{is_zero, is_positive, gcd_of}
use Rattle.rp_algebra.proofs.Reify.{by_ring_at, reify}
use Rattle.rp_algebra.proofs.IntLaws.{mul_pos_ℤ, pos_of_mul_pos_ℤ, nonneg_of_pos_ℤ, cancel_mul_ne_ℤ}
use Rattle.rp_algebra.proofs.Numbers.{above_not_zero, nat_positive}
use Rattle.rp_algebra.proofs.Tests.{positive_is, is_positive_true, zero_is, is_zero_true, same_test}
use Rattle.rp_algebra.proofs.Divisors.{gcd_of-divides}
use Rattle.rp_algebra.proofs.LowestTerms.{exact_quotient}
use Rattle.rp_geometry.specs.Geometry.{RationalPoint, HalfSpace, half_space_of, side_value, owns_boundary, holds, is_zero_half_space, reduced_half_space, IsKeptHalfSpace}
use Rattle.rp_geometry.proofs.InLowestTerms.{divisor_above, reduced_half_space_is}

-- a positive multiple is positive exactly where the number is
positive_times : (k v : ℤ) → pos 0 <ℤ k → is_positive (k *ℤ v) ≡ is_positive v
positive_times k v h =
    same_test (is_positive (k *ℤ v)) (is_positive v)
    (λ e. is_positive_true v (pos_of_mul_pos_ℤ k v (nonneg_of_pos_ℤ k h) (positive_is (k *ℤ v) e)))
    (λ e. is_positive_true (k *ℤ v) (mul_pos_ℤ k v h (positive_is v e)))

-- it is zero exactly where the number is
zero_times : (k v : ℤ) → pos 0 <ℤ k → is_zero (k *ℤ v) ≡ is_zero v
zero_times k v h =
    same_test (is_zero (k *ℤ v)) (is_zero v)
    (λ e. is_zero_true v (cancel_mul_ne_ℤ k v (above_not_zero k h) (zero_is (k *ℤ v) e)))
    (λ e. is_zero_true (k *ℤ v) (ap (λ u. k *ℤ u) (zero_is v e) ∙ *ℤ-zero k))

-- a half-space with each number multiplied
abbrev scaled : ℤ → HalfSpace → HalfSpace
scaled k r = half_space_of (k *ℤ r.a) (k *ℤ r.b) (k *ℤ r.c) (k *ℤ r.d)

-- the side value is multiplied too
scaled_side : (k a b c d x y z w : ℤ) → (k *ℤ a) *ℤ x +ℤ (k *ℤ b) *ℤ y +ℤ (k *ℤ c) *ℤ z +ℤ (k *ℤ d) *ℤ w ≡ k *ℤ (a *ℤ x +ℤ b *ℤ y +ℤ c *ℤ z +ℤ d *ℤ w)
scaled_side k a b c d x y z w = by_ring_at (k ∷ a ∷ b ∷ c ∷ d ∷ x ∷ y ∷ z ∷ w ∷ []) (search reify depth 60 fits 100000) tt

-- a positive multiple owns its boundary plane exactly where the half-space does
scaled_owns : (k : ℤ) (r : HalfSpace) → pos 0 <ℤ k → owns_boundary (scaled k r) ≡ owns_boundary r
scaled_owns k r h = λ i. positive_times k r.a h i || (zero_times k r.a h i && (positive_times k r.b h i || (zero_times k r.b h i && positive_times k r.c h i)))

-- a positive multiple holds the same points
scaled_holds : (k : ℤ) (r : HalfSpace) (p : RationalPoint) → pos 0 <ℤ k → holds (scaled k r) p ≡ holds r p
scaled_holds k r p h =
    (λ i. is_positive (scaled_side k r.a r.b r.c r.d p.x p.y p.z p.w i) || (is_zero (scaled_side k r.a r.b r.c r.d p.x p.y p.z p.w i) && scaled_owns k r h i))
    ∙ (λ i. positive_times k (side_value r p) h i || (zero_times k (side_value r p) h i && owns_boundary r))

-- the common divisor of the numbers of a half-space
abbrev divisor_of : HalfSpace → ℕ
divisor_of h = gcd_of (h.a ∷ h.b ∷ h.c ∷ h.d ∷ [])

-- the half-space is a multiple of that in lowest terms
scaled_back : (h : HalfSpace) → scaled (pos (divisor_of h)) (reduced_half_space h) ≡ h
unfolding reduced_half_space
scaled_back h =
    let d = gcd_of-divides (h.a ∷ h.b ∷ h.c ∷ h.d ∷ []) in
    λ i. half_space_of (exact_quotient (divisor_of h) h.a d.0 i) (exact_quotient (divisor_of h) h.b d.1.0 i) (exact_quotient (divisor_of h) h.c d.1.1.0 i) (exact_quotient (divisor_of h) h.d d.1.1.1.0 i)

-- in lowest terms it holds the same points
pub reduced_holds : (h : HalfSpace) → is_zero_half_space h ≡ false → (p : RationalPoint) → holds (reduced_half_space h) p ≡ holds h p
reduced_holds h nonzero p =
    sym (scaled_holds (pos (divisor_of h)) (reduced_half_space h) p (nat_positive (divisor_of h) (divisor_above h nonzero)))
    ∙ ap (λ k. holds k p) (scaled_back h)

-- in lowest terms it is kept
pub reduced_is_kept : (h : HalfSpace) → nat_abs h.a ≤ 16777216 → nat_abs h.b ≤ 16777216 → nat_abs h.c ≤ 16777216 → nat_abs h.d ≤ 844424930131968 → is_zero_half_space h ≡ false → IsKeptHalfSpace (reduced_half_space h)
reduced_is_kept h a b c d nonzero =
    let r = reduced_half_space_is h nonzero in
    let less_a = r.a.size in
    let less_b = r.b.size in
    let less_c = r.c.size in
    let less_d = r.d.size in
    record {
      numbers = record { a = omega arith; b = omega arith; c = omega arith; d = omega arith; nonzero = r.nonzero };
      lowest = r.lowest;
    }
