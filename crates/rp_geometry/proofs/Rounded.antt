-- Coordinates of points of the closed cube, rounded down and up, in machine numbers.
use Rattle.std.proofs.Common.{ℤ, neg_ℤ, ◌*ℤ◌, ◌≤ℤ◌, ◌≡◌, true, [], ◌∷◌, arith, ◌≤◌, unsigned_abs, pos, ◌<ℤ◌, subst, FitsSigned, to_z, of_z, ◌∙◌, ap, ◌-ℤ◌, ◌<◌, ◌^◌, le_of_lt}
use Rattle.std.specs.Prelude.{int_le}
use Rattle.std.proofs.lemmas.Int.{ints, to_z-of_z}
use Rattle.std.specs.Int.{int_div_euclid}
use mir.Syntax.{w128, w32}
use Rattle.rp_algebra.proofs.Tests.{and_first, and_second, at_most_is, and_true, at_most_true}
use Rattle.rp_algebra.proofs.IntLaws.{linear, mul_comm_ℤ, le_of_mul_le_left_ℤ}
use Rattle.rp_algebra.proofs.Reify.{by_ring_at, reify}
use Rattle.rp_algebra.specs.Integer.{floor_of, ceiling_of}
use Rattle.rp_algebra.specs.Within.{IsWithin}
use Rattle.rp_algebra.proofs.Rounding.{floor_below, floor_greatest, le_trans}
use Rattle.rp_algebra.proofs.Machine.{read_is}
use Rattle.rp_algebra.proofs.Numbers.{opposite_within, from_zero}
use Rattle.rp_geometry.specs.Geometry.{cube_bound, is_in_closed_range, half_edge}

-- the coordinate v/w is from -M to M
pub record IsInClosedRange (v w : ℤ) : Type 0 where
  pub low : (neg_ℤ cube_bound *ℤ w) ≤ℤ v
  pub high : v ≤ℤ (cube_bound *ℤ w)

-- the test says so
pub closed_range_is : (v w : ℤ) → is_in_closed_range v w ≡ true → IsInClosedRange v w
closed_range_is v w e = record { low = at_most_is (neg_ℤ cube_bound *ℤ w) v (and_first _ _ e); high = at_most_is v (cube_bound *ℤ w) (and_second (int_le (neg_ℤ cube_bound *ℤ w) v) (int_le v (cube_bound *ℤ w)) e) }

-- the opposite coordinate is from -M to M too
pub opposite_range : (v w : ℤ) → is_in_closed_range v w ≡ true → is_in_closed_range (neg_ℤ v) w ≡ true
opposite_range v w e =
    let k = closed_range_is v w e in
    and_true (int_le (neg_ℤ cube_bound *ℤ w) (neg_ℤ v)) (int_le (neg_ℤ v) (cube_bound *ℤ w))
    (at_most_true (neg_ℤ cube_bound *ℤ w) (neg_ℤ v) (above cube_bound v w k.high))
    (at_most_true (neg_ℤ v) (cube_bound *ℤ w) (below cube_bound v w k.low))
  where
    above : (m v w : ℤ) → v ≤ℤ (m *ℤ w) → (neg_ℤ m *ℤ w) ≤ℤ neg_ℤ v
    above m v w h = let e : neg_ℤ m *ℤ w ≡ neg_ℤ (m *ℤ w) = by_ring_at (m ∷ w ∷ []) (search reify depth 40 fits 100000) tt in omega (arith, linear, e, h)

    below : (m v w : ℤ) → (neg_ℤ m *ℤ w) ≤ℤ v → neg_ℤ v ≤ℤ (m *ℤ w)
    below m v w h = let e : neg_ℤ m *ℤ w ≡ neg_ℤ (m *ℤ w) = by_ring_at (m ∷ w ∷ []) (search reify depth 40 fits 100000) tt in omega (arith, linear, e, h)

-- a number from -m to m
size_of : (f : ℤ) → neg_ℤ cube_bound ≤ℤ f → f ≤ℤ cube_bound → unsigned_abs f ≤ half_edge
size_of f l h = omega (arith, ints)

-- the floor of a coordinate from -M to M is from -M to M
pub floor_within : (v w : ℤ) → pos 0 <ℤ w → is_in_closed_range v w ≡ true → IsWithin half_edge (floor_of v w)
floor_within v w hw e =
    let k = closed_range_is v w e in
    let low = floor_greatest (neg_ℤ cube_bound) v w hw k.low in
    let high = at_most (floor_of v w) cube_bound w hw (le_trans (floor_of v w *ℤ w) v (cube_bound *ℤ w) (floor_below v w hw) k.high) in
    record { abs_le = size_of (floor_of v w) low high }
  where
    at_most : (f m w : ℤ) → pos 0 <ℤ w → (f *ℤ w) ≤ℤ (m *ℤ w) → f ≤ℤ m
    at_most f m w hw h = le_of_mul_le_left_ℤ w f m hw (subst (λ (t : ℤ). t ≤ℤ (w *ℤ m)) (mul_comm_ℤ f w) (subst (λ (t : ℤ). (f *ℤ w) ≤ℤ t) (mul_comm_ℤ m w) h))

-- the quotient that the code has is the floor
pub quotient_is : (r v w : ℤ) → FitsSigned w128 v → FitsSigned w128 w → r ≡ int_div_euclid (to_z w128 (of_z w128 v)) (to_z w128 (of_z w128 w)) → r ≡ floor_of v w
quotient_is r v w fv fw e = e ∙ (λ i. int_div_euclid (to_z-of_z w128 v fv i) (to_z-of_z w128 w fw i))

-- a small number stays as it is in 32 bits
pub short_is : (r : ℤ) → IsWithin half_edge r → to_z w32 (of_z w32 (to_z w128 (of_z w128 r))) ≡ r
short_is r h = ap (λ (t : ℤ). to_z w32 (of_z w32 t)) (read_is w128 h tt) ∙ read_is w32 h tt

-- 0 less a small number is its opposite
pub opposite_of_short : (r : ℤ) → IsWithin half_edge r → to_z w32 (of_z w32 (pos 0 -ℤ to_z w32 (of_z w32 r))) ≡ neg_ℤ r
opposite_of_short r h = ap (λ (t : ℤ). to_z w32 (of_z w32 (pos 0 -ℤ t))) (read_is w32 h tt) ∙ ap (λ (t : ℤ). to_z w32 (of_z w32 t)) (from_zero r) ∙ read_is w32 (opposite_within half_edge r h) tt

-- the same of a coordinate
pub opposite_of_long : (v : ℤ) → FitsSigned w128 v → unsigned_abs v < 2 ^ 101 → to_z w128 (of_z w128 (pos 0 -ℤ to_z w128 (of_z w128 v))) ≡ neg_ℤ v
opposite_of_long v f h = ap (λ (t : ℤ). to_z w128 (of_z w128 (pos 0 -ℤ t))) (to_z-of_z w128 v f) ∙ ap (λ (t : ℤ). to_z w128 (of_z w128 t)) (from_zero v) ∙ read_is w128 (opposite_within (2 ^ 101) v (record { abs_le = le_of_lt h })) tt

-- the opposite of the floor of the opposite is the ceiling
pub ceiling_is : (r v w : ℤ) → FitsSigned w128 v → FitsSigned w128 w → unsigned_abs v < 2 ^ 101 → IsWithin half_edge r
    → r ≡ floor_of (to_z w128 (of_z w128 (pos 0 -ℤ to_z w128 (of_z w128 v)))) (to_z w128 (of_z w128 w)) → to_z w32 (of_z w32 (pos 0 -ℤ to_z w32 (of_z w32 r))) ≡ ceiling_of v w
ceiling_is r v w fv fw size h e =
    opposite_of_short r h ∙ ap neg_ℤ (e ∙ (λ i. floor_of (opposite_of_long v fv size i) (to_z-of_z w128 w fw i)))
