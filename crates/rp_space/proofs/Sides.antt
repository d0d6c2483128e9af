-- The half-spaces of the sides of a box are in lowest terms as they stand.
use Rattle.std.proofs.Common.{◌≡◌, ℕ, ◌≤◌, ℤ, pos, negsuc, neg_ℤ, ◌-ℤ◌, nat_abs, to_z, of_z, true, false, [], ◌∷◌, refl, sym, ap, ◌∙◌, subst, arith}
use Rattle.std.specs.Int.RustNames.{unsigned_abs, FitsSigned}
use mir.Syntax.{w32, w64}
use Rattle.std.proofs.lemmas.Int.{ints}
use Rattle.std.proofs.lemmas.Bool.{and_parts}
use Rattle.rp_algebra.specs.Integer.{gcd, gcd_of}
use Rattle.rp_algebra.proofs.Divisors.{gcd_of-four, gcd-zero, gcd-at_most_right, gcd-positive_right}
use Rattle.rp_algebra.proofs.Machine.{at_most, code, fits_by, is_by, literal, negation, sum, written}
use Rattle.rp_geometry.specs.Geometry.{IntegerBox, HalfSpace, half_space_of, is_within_bound, is_half_space_in_bounds, is_zero_half_space, is_box_in_bounds, IsKeptHalfSpace}
use Rattle.rp_geometry.proofs.InLowestTerms.{size_within}
use Rattle.rp_space.proofs.Kept.{kept_half_space, lowest_by_one}

-- the sizes of the numbers of a box
pub record AreSmall (b : IntegerBox) : Type 0 where
  pub x1 : unsigned_abs b.x1 ≤ 16777216
  pub y1 : unsigned_abs b.y1 ≤ 16777216
  pub z1 : unsigned_abs b.z1 ≤ 16777216
  pub x2 : unsigned_abs b.x2 ≤ 16777216
  pub y2 : unsigned_abs b.y2 ≤ 16777216
  pub z2 : unsigned_abs b.z2 ≤ 16777216

-- a box within its bounds has small numbers
pub box_is_small : (b : IntegerBox) → is_box_in_bounds b ≡ true → AreSmall b
box_is_small b e =
    let five = and_parts _ _ e in
    let four = and_parts _ _ five.0 in
    let three = and_parts _ _ four.0 in
    let two = and_parts _ _ three.0 in
    let one = and_parts _ _ two.0 in
    record {
      x1 = size_within 16777216 b.x1 one.0;
      y1 = size_within 16777216 b.y1 one.1;
      z1 = size_within 16777216 b.z1 two.1;
      x2 = size_within 16777216 b.x2 three.1;
      y2 = size_within 16777216 b.y2 four.1;
      z2 = size_within 16777216 b.z2 five.1;
    }

-- four numbers within bounds and with the divisor 1 are kept
kept_by_one : (h : HalfSpace) → is_half_space_in_bounds h ≡ true → is_zero_half_space h ≡ false → gcd_of (h.a ∷ h.b ∷ h.c ∷ h.d ∷ []) ≡ 1 → IsKeptHalfSpace h
kept_by_one h inside nonzero one = subst IsKeptHalfSpace (lowest_by_one h one) (kept_half_space h inside nonzero)

-- a small offset is within its bound
small_offset : (v : ℤ) → unsigned_abs v ≤ 16777216 → is_within_bound (pos 844424930131968) v ≡ true
small_offset v h = grind (arith, ints)

-- the greatest common divisor with 1
gcd-one : (n : ℕ) → gcd n 1 ≡ 1
gcd-one n = let h = gcd-at_most_right n 1 (omega arith) in let p = gcd-positive_right n 1 (omega arith) in omega (arith, h, p)

-- the divisor where the first, the second or the third number has the size 1 and the others are 0
divisor_x : (s d : ℤ) → nat_abs s ≡ 1 → gcd_of (s ∷ pos 0 ∷ pos 0 ∷ d ∷ []) ≡ 1
divisor_x s d e = gcd_of-four s (pos 0) (pos 0) d ∙ ap (gcd (gcd (gcd (nat_abs d) 0) 0)) e ∙ gcd-one (gcd (gcd (nat_abs d) 0) 0)

-- the second
divisor_y : (s d : ℤ) → nat_abs s ≡ 1 → gcd_of (pos 0 ∷ s ∷ pos 0 ∷ d ∷ []) ≡ 1
divisor_y s d e = gcd_of-four (pos 0) s (pos 0) d ∙ gcd-zero (gcd (gcd (nat_abs d) 0) (nat_abs s)) ∙ ap (gcd (gcd (nat_abs d) 0)) e ∙ gcd-one (gcd (nat_abs d) 0)

-- the third
divisor_z : (s d : ℤ) → nat_abs s ≡ 1 → gcd_of (pos 0 ∷ pos 0 ∷ s ∷ d ∷ []) ≡ 1
divisor_z s d e =
    gcd_of-four (pos 0) (pos 0) s d ∙ gcd-zero (gcd (gcd (nat_abs d) (nat_abs s)) 0) ∙ gcd-zero (gcd (nat_abs d) (nat_abs s)) ∙ ap (gcd (nat_abs d)) e ∙ gcd-one (nat_abs d)

-- the negative of a number of a box, as the machine makes it
pub lower_number : (v : ℤ) → unsigned_abs v ≤ 16777216 → to_z w64 (of_z w64 (pos 0 -ℤ to_z w64 (of_z w64 (to_z w32 (of_z w32 v))))) ≡ neg_ℤ v
lower_number v h = is_by (search code depth 30 fits 100000) tt ∙ from_zero v
  where
    from_zero : (v : ℤ) → pos 0 -ℤ v ≡ neg_ℤ v
    from_zero v = omega (arith, ints)

-- a number of a box, as the machine widens it
pub upper_number : (v : ℤ) → unsigned_abs v ≤ 16777216 → to_z w64 (of_z w64 (to_z w32 (of_z w32 v))) ≡ v
upper_number v h = is_by (search code depth 30 fits 100000) tt

-- a number of a box fits 64 bits
pub upper_fits : (v : ℤ) → unsigned_abs v ≤ 16777216 → FitsSigned w64 (to_z w32 (of_z w32 v))
upper_fits v h = fits_by (written w32 v (at_most h)) tt

-- and so does its negative
pub lower_fits : (v : ℤ) → unsigned_abs v ≤ 16777216 → FitsSigned w64 (pos 0 -ℤ to_z w64 (of_z w64 (to_z w32 (of_z w32 v))))
lower_fits v h = fits_by (sum (literal 0) (negation (written w64 _ (written w32 v (at_most h))))) tt

-- the negative is as small
small_negative : (v : ℤ) → unsigned_abs v ≤ 16777216 → unsigned_abs (neg_ℤ v) ≤ 16777216
small_negative v h = omega (arith, ints)

-- a half-space of x alone
pub kept_x : (v : ℤ) → unsigned_abs v ≤ 16777216 → IsKeptHalfSpace (half_space_of (pos 1) (pos 0) (pos 0) v)
kept_x v h = kept_by_one (half_space_of (pos 1) (pos 0) (pos 0) v) (small_offset v h) refl (divisor_x (pos 1) v refl)

-- the lower side of x
pub lower_x : (v : ℤ) → unsigned_abs v ≤ 16777216 → IsKeptHalfSpace (half_space_of (pos 1) (pos 0) (pos 0) (to_z w64 (of_z w64 (pos 0 -ℤ to_z w64 (of_z w64 (to_z w32 (of_z w32 v)))))))
lower_x v h =
    subst (λ (d : ℤ). IsKeptHalfSpace (half_space_of (pos 1) (pos 0) (pos 0) d)) (sym (lower_number v h))
    (kept_x (neg_ℤ v) (small_negative v h))

-- the lower side of y
pub lower_y : (v : ℤ) → unsigned_abs v ≤ 16777216 → IsKeptHalfSpace (half_space_of (pos 0) (pos 1) (pos 0) (to_z w64 (of_z w64 (pos 0 -ℤ to_z w64 (of_z w64 (to_z w32 (of_z w32 v)))))))
lower_y v h =
    subst (λ (d : ℤ). IsKeptHalfSpace (half_space_of (pos 0) (pos 1) (pos 0) d)) (sym (lower_number v h))
    (kept_by_one (half_space_of (pos 0) (pos 1) (pos 0) (neg_ℤ v)) (small_offset (neg_ℤ v) (small_negative v h)) refl (divisor_y (pos 1) (neg_ℤ v) refl))

-- the lower side of z
pub lower_z : (v : ℤ) → unsigned_abs v ≤ 16777216 → IsKeptHalfSpace (half_space_of (pos 0) (pos 0) (pos 1) (to_z w64 (of_z w64 (pos 0 -ℤ to_z w64 (of_z w64 (to_z w32 (of_z w32 v)))))))
lower_z v h =
    subst (λ (d : ℤ). IsKeptHalfSpace (half_space_of (pos 0) (pos 0) (pos 1) d)) (sym (lower_number v h))
    (kept_by_one (half_space_of (pos 0) (pos 0) (pos 1) (neg_ℤ v)) (small_offset (neg_ℤ v) (small_negative v h)) refl (divisor_z (pos 1) (neg_ℤ v) refl))

-- the upper side of x
pub upper_x : (v : ℤ) → unsigned_abs v ≤ 16777216 → IsKeptHalfSpace (half_space_of (negsuc 0) (pos 0) (pos 0) (to_z w64 (of_z w64 (to_z w32 (of_z w32 v)))))
upper_x v h =
    subst (λ (d : ℤ). IsKeptHalfSpace (half_space_of (negsuc 0) (pos 0) (pos 0) d)) (sym (upper_number v h))
    (kept_by_one (half_space_of (negsuc 0) (pos 0) (pos 0) v) (small_offset v h) refl (divisor_x (negsuc 0) v refl))

-- the upper side of y
pub upper_y : (v : ℤ) → unsigned_abs v ≤ 16777216 → IsKeptHalfSpace (half_space_of (pos 0) (negsuc 0) (pos 0) (to_z w64 (of_z w64 (to_z w32 (of_z w32 v)))))
upper_y v h =
    subst (λ (d : ℤ). IsKeptHalfSpace (half_space_of (pos 0) (negsuc 0) (pos 0) d)) (sym (upper_number v h))
    (kept_by_one (half_space_of (pos 0) (negsuc 0) (pos 0) v) (small_offset v h) refl (divisor_y (negsuc 0) v refl))

-- the upper side of z
pub upper_z : (v : ℤ) → unsigned_abs v ≤ 16777216 → IsKeptHalfSpace (half_space_of (pos 0) (pos 0) (negsuc 0) (to_z w64 (of_z w64 (to_z w32 (of_z w32 v)))))
upper_z v h =
    subst (λ (d : ℤ). IsKeptHalfSpace (half_space_of (pos 0) (pos 0) (negsuc 0) d)) (sym (upper_number v h))
    (kept_by_one (half_space_of (pos 0) (pos 0) (negsuc 0) v) (small_offset v h) refl (divisor_z (negsuc 0) v refl))
