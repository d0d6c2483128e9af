-- Coordinates of points of the cube, rounded down in machine numbers, and the box around a point that they make.
use Rattle.std.proofs.Common.{◌≡◌, ◌≤◌, ◌<◌, ◌^◌, ℤ, pos, neg_ℤ, ◌+ℤ◌, ◌*ℤ◌, ◌≤ℤ◌, ◌<ℤ◌, unsigned_abs, to_z, of_z, true, ◌&&◌, sym, ap, ◌∙◌, subst, le_of_lt, arith}
use Rattle.std.specs.Prelude.{int_lt, int_le}
use Rattle.std.proofs.lemmas.Int.{ints}
use mir.Syntax.{w32, w128}
use Rattle.rp_algebra.specs.Integer.{floor_of}
use Rattle.rp_algebra.specs.Within.{IsWithin}
use Rattle.rp_algebra.proofs.IntLaws.{mul_comm_ℤ, nonneg_of_pos_ℤ, lt_of_mul_lt_left_ℤ, le_of_mul_le_left_ℤ}
use Rattle.rp_algebra.proofs.Machine.{read_is}
use Rattle.rp_algebra.proofs.Rounding.{floor_below, floor_greatest, le_trans}
use Rattle.rp_algebra.proofs.Tests.{and_first, and_second, at_most_is, less_true}
use Rattle.rp_geometry.specs.Geometry.{RationalPoint, IsSmallPoint, half_edge, cube_bound, is_in_range, is_cube_point}

-- the test of a lesser number
less_is : (a b : ℤ) → int_lt a b ≡ true → a <ℤ b
less_is a b e = grind (arith, ints)

-- what is below is at most
less_at_most : (a b : ℤ) → a <ℤ b → a ≤ℤ b
less_at_most a b h = omega (arith, ints)

-- the floor of a coordinate from -M to below M is from -M to M
pub floor_within : (v w : ℤ) → pos 0 <ℤ w → is_in_range v w ≡ true → IsWithin half_edge (floor_of v w)
floor_within v w hw e =
    let low = floor_greatest (neg_ℤ cube_bound) v w hw (at_most_is (neg_ℤ cube_bound *ℤ w) v (and_first _ _ e)) in
    let below = less_at_most v (cube_bound *ℤ w) (less_is v (cube_bound *ℤ w) (and_second (int_le (neg_ℤ cube_bound *ℤ w) v) (int_lt v (cube_bound *ℤ w)) e)) in
    let high = at_most (floor_of v w) cube_bound w hw (le_trans (floor_of v w *ℤ w) v (cube_bound *ℤ w) (floor_below v w hw) below) in
    record { abs_le = size_of (floor_of v w) low high }
  where
    at_most : (f m w : ℤ) → pos 0 <ℤ w → (f *ℤ w) ≤ℤ (m *ℤ w) → f ≤ℤ m
    at_most f m w hw h = le_of_mul_le_left_ℤ w f m hw (subst (λ (t : ℤ). t ≤ℤ (w *ℤ m)) (mul_comm_ℤ f w) (subst (λ (t : ℤ). (f *ℤ w) ≤ℤ t) (mul_comm_ℤ m w) h))

    size_of : (f : ℤ) → neg_ℤ cube_bound ≤ℤ f → f ≤ℤ cube_bound → unsigned_abs f ≤ half_edge
    size_of f l h = omega (arith, ints)

-- ---- a point in machine numbers

-- the numbers of a point are read as they are
pub record AreRead (p : RationalPoint) : Type 0 where
  pub x : to_z w128 (of_z w128 p.x) ≡ p.x
  pub y : to_z w128 (of_z w128 p.y) ≡ p.y
  pub z : to_z w128 (of_z w128 p.z) ≡ p.z
  pub w : to_z w128 (of_z w128 p.w) ≡ p.w

-- those of a small point are
pub are_read : (p : RationalPoint) → IsSmallPoint p → AreRead p
are_read p h = record {
  x = read_is w128 (coordinate p.x h.x) tt;
  y = read_is w128 (coordinate p.y h.y) tt;
  z = read_is w128 (coordinate p.z h.z) tt;
  w = read_is w128 (weight p.w h.w) tt;
}
  where
    coordinate : (v : ℤ) → unsigned_abs v < 2 ^ 101 → IsWithin (2 ^ 101) v
    coordinate v h = record { abs_le = le_of_lt h }

    weight : (v : ℤ) → unsigned_abs v < 2 ^ 75 → IsWithin (2 ^ 75) v
    weight v h = record { abs_le = le_of_lt h }

-- its coordinates, as they are read, are in range
pub record AreInRange (p : RationalPoint) : Type 0 where
  pub x : is_in_range (to_z w128 (of_z w128 p.x)) (to_z w128 (of_z w128 p.w)) ≡ true
  pub y : is_in_range (to_z w128 (of_z w128 p.y)) (to_z w128 (of_z w128 p.w)) ≡ true
  pub z : is_in_range (to_z w128 (of_z w128 p.z)) (to_z w128 (of_z w128 p.w)) ≡ true

-- those of a point of the cube are
pub are_in_range : (p q : RationalPoint) → p ≡ q → IsSmallPoint p → is_cube_point q ≡ true → AreInRange p
are_in_range p q same small e =
    let r = are_read p small in
    let f = ap is_cube_point same ∙ e in
    let both = and_first (is_in_range p.x p.w && is_in_range p.y p.w) (is_in_range p.z p.w) f in
    record {
      x = (λ i. is_in_range (r.x i) (r.w i)) ∙ and_first (is_in_range p.x p.w) (is_in_range p.y p.w) both;
      y = (λ i. is_in_range (r.y i) (r.w i)) ∙ and_second (is_in_range p.x p.w) (is_in_range p.y p.w) both;
      z = (λ i. is_in_range (r.z i) (r.w i)) ∙ and_second (is_in_range p.x p.w && is_in_range p.y p.w) (is_in_range p.z p.w) f;
    }

-- ---- the box around a point

-- the span from a floor to the next whole number meets each span that holds the coordinate
pub record SpansMeet (f g b c : ℤ) : Type 0 where
  pub below : int_lt f c ≡ true
  pub above : int_lt b g ≡ true

-- on whole numbers of any size
whole_spans_meet : (v w f b c : ℤ) → pos 0 <ℤ w → f ≡ floor_of v w → (b *ℤ w) ≤ℤ v → v <ℤ (c *ℤ w) → SpansMeet f (f +ℤ pos 1) b c
whole_spans_meet v w f b c hw is low high =
    let under = subst (λ (t : ℤ). (t *ℤ w) ≤ℤ v) (sym is) (floor_below v w hw) in
    let over = subst (λ (t : ℤ). b ≤ℤ t) (sym is) (floor_greatest b v w hw low) in
    record { below = less_true f c (less f c w hw (between (f *ℤ w) v (c *ℤ w) under high)); above = less_true b (f +ℤ pos 1) (before_next b f over) }
  where
    between : (a b c : ℤ) → a ≤ℤ b → b <ℤ c → a <ℤ c
    between a b c h k = omega (arith, ints)

    before_next : (b f : ℤ) → b ≤ℤ f → b <ℤ (f +ℤ pos 1)
    before_next b f h = omega (arith, ints)

    less : (f c w : ℤ) → pos 0 <ℤ w → (f *ℤ w) <ℤ (c *ℤ w) → f <ℤ c
    less f c w hw h = lt_of_mul_lt_left_ℤ w f c (nonneg_of_pos_ℤ w hw) (subst (λ (t : ℤ). t <ℤ (w *ℤ c)) (mul_comm_ℤ f w) (subst (λ (t : ℤ). (f *ℤ w) <ℤ t) (mul_comm_ℤ c w) h))

-- and as the code has them
pub spans_meet : (v w r b c : ℤ) → to_z w128 (of_z w128 v) ≡ v → to_z w128 (of_z w128 w) ≡ w → pos 0 <ℤ w → r ≡ floor_of (to_z w128 (of_z w128 v)) (to_z w128 (of_z w128 w)) → IsWithin half_edge r → (b *ℤ w) ≤ℤ v → v <ℤ (c *ℤ w)
    → SpansMeet (to_z w32 (of_z w32 r)) (to_z w32 (of_z w32 (to_z w32 (of_z w32 (to_z w32 (of_z w32 r))) +ℤ pos 1))) b c
spans_meet v w r b c ev ew hw is small low high =
    let here = read_is w32 small tt in
    let next : to_z w32 (of_z w32 (to_z w32 (of_z w32 (to_z w32 (of_z w32 r))) +ℤ pos 1)) ≡ r +ℤ pos 1 =
    ap (λ (t : ℤ). to_z w32 (of_z w32 (t +ℤ pos 1))) (ap (λ (t : ℤ). to_z w32 (of_z w32 t)) here ∙ here) ∙ read_is w32 (one_more r small) tt in
    let m = whole_spans_meet v w r b c hw (is ∙ (λ i. floor_of (ev i) (ew i))) low high in
    record { below = ap (λ (t : ℤ). int_lt t c) here ∙ m.below; above = ap (int_lt b) next ∙ m.above }
  where
    one_more : (r : ℤ) → IsWithin half_edge r → IsWithin 16777217 (r +ℤ pos 1)
    one_more r h = let k = h.abs_le in record { abs_le = omega (arith, ints) }
