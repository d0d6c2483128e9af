-- Points in machine numbers: they are read as they are, and those of the closed cube are in its range.
use Rattle.std.proofs.Common.{◌≡◌, ◌≤◌, ◌<◌, ◌^◌, ℤ, pos, ◌*ℤ◌, ◌≤ℤ◌, ◌<ℤ◌, unsigned_abs, to_z, of_z, FitsSigned, true, false, ◌&&◌, sym, ◌∙◌, subst, arith, le_of_lt}
use Rattle.std.specs.Prelude.{int_le}
use Rattle.std.specs.Int.{int_max, int_min}
use Rattle.std.proofs.lemmas.Int.{ints, clamps, to_z-of_z}
use mir.Syntax.{w32, w128}
use Rattle.rp_algebra.specs.Integer.{floor_of, ceiling_of}
use Rattle.rp_algebra.specs.Within.{IsWithin}
use Rattle.rp_algebra.proofs.IntLaws.{mul_comm_ℤ, le_of_mul_le_left_ℤ}
use Rattle.rp_algebra.proofs.Machine.{written, product, at_most, less_than, is_by, read_is}
use Rattle.rp_algebra.proofs.Rounding.{floor_below, floor_greatest, ceiling_above, ceiling_least, le_trans}
use Rattle.rp_algebra.proofs.Tests.{and_first, and_second, at_most_is}
use Rattle.rp_geometry.specs.Geometry.{RationalPoint, point_of, IsSmallPoint, is_in_closed_range, is_closed_cube_point}

-- the numbers that are read are those of the point
pub record AreRead (x y z w : ℤ) (p : RationalPoint) : Type 0 where
  pub x_is : to_z w128 (of_z w128 x) ≡ p.x
  pub y_is : to_z w128 (of_z w128 y) ≡ p.y
  pub z_is : to_z w128 (of_z w128 z) ≡ p.z
  pub w_is : to_z w128 (of_z w128 w) ≡ p.w

-- the numbers of a small point are read as they are
pub are_read : (x y z w : ℤ) (p : RationalPoint) → point_of x y z w ≡ p → IsSmallPoint p → AreRead x y z w p
are_read x y z w p e small = subst (λ (q : RationalPoint). AreRead x y z w q) e (here (subst (λ (q : RationalPoint). IsSmallPoint q) (sym e) small))
  where
    here : IsSmallPoint (point_of x y z w) → AreRead x y z w (point_of x y z w)
    here k = record {
      x_is = read_is w128 (coordinate x k.x) tt;
      y_is = read_is w128 (coordinate y k.y) tt;
      z_is = read_is w128 (coordinate z k.z) tt;
      w_is = read_is w128 (weight w k.w) tt;
    }
      where
        coordinate : (v : ℤ) → unsigned_abs v < 2 ^ 101 → IsWithin (2 ^ 101) v
        coordinate v h = record { abs_le = le_of_lt h }

        weight : (v : ℤ) → unsigned_abs v < 2 ^ 75 → IsWithin (2 ^ 75) v
        weight v h = record { abs_le = le_of_lt h }

-- the coordinates that are read of a point of the closed cube are from -M to M
pub record AreInClosedRange (x y z w : ℤ) : Type 0 where
  pub x_range : is_in_closed_range x w ≡ true
  pub y_range : is_in_closed_range y w ≡ true
  pub z_range : is_in_closed_range z w ≡ true

-- the test of a point says so
pub read_range : (x y z w : ℤ) (p : RationalPoint) → AreRead x y z w p → is_closed_cube_point p ≡ true → AreInClosedRange (to_z w128 (of_z w128 x)) (to_z w128 (of_z w128 y)) (to_z w128 (of_z w128 z)) (to_z w128 (of_z w128 w))
read_range x y z w p r e =
    let first_two = and_first (is_in_closed_range p.x p.w && is_in_closed_range p.y p.w) (is_in_closed_range p.z p.w) e in
    record {
      x_range = (λ i. is_in_closed_range (r.x_is i) (r.w_is i)) ∙ and_first (is_in_closed_range p.x p.w) (is_in_closed_range p.y p.w) first_two;
      y_range = (λ i. is_in_closed_range (r.y_is i) (r.w_is i)) ∙ and_second (is_in_closed_range p.x p.w) (is_in_closed_range p.y p.w) first_two;
      z_range = (λ i. is_in_closed_range (r.z_is i) (r.w_is i)) ∙ and_second (is_in_closed_range p.x p.w && is_in_closed_range p.y p.w) (is_in_closed_range p.z p.w) e;
    }

-- a number of 32 bits is at most 2 ^ 31 in size
signed_size : (m : ℤ) → FitsSigned w32 m → unsigned_abs m ≤ 2147483648
signed_size m f = omega (arith, ints, f.sfits)

-- where a test at most says no, it is the other way round
not_at_most : (a b : ℤ) → int_le a b ≡ false → b ≤ℤ a
not_at_most a b e = grind (arith, ints)

-- two numbers with another between their products by a positive one
at_most_by : (a b w : ℤ) {v : ℤ} → pos 0 <ℤ w → (a *ℤ w) ≤ℤ v → v ≤ℤ (b *ℤ w) → a ≤ℤ b
at_most_by a b w {v} h k l =
    le_of_mul_le_left_ℤ w a b h (subst (λ (t : ℤ). t ≤ℤ (w *ℤ b)) (mul_comm_ℤ a w) (subst (λ (t : ℤ). (a *ℤ w) ≤ℤ t) (mul_comm_ℤ b w) (le_trans (a *ℤ w) v (b *ℤ w) k l)))

-- ---- a side of a box, moved only where a product tells that the coordinate v/w lies beyond it

-- the product that the code has, of a side and a weight
abbrev machine_product : ℤ → ℤ → ℤ
machine_product m w = to_z w128 (of_z w128 (to_z w128 (of_z w128 (to_z w32 (of_z w32 m))) *ℤ to_z w128 (of_z w128 w)))

module _ (m v w : ℤ) (fm : FitsSigned w32 m) (fv : FitsSigned w128 v) (positive : pos 0 <ℤ w) (size : unsigned_abs w < 2 ^ 75) where
  product_is : machine_product m w ≡ m *ℤ w
  product_is =
      (λ i. to_z w128 (of_z w128 (to_z w128 (of_z w128 (to_z-of_z w32 m fm i)) *ℤ to_z w128 (of_z w128 w))))
      ∙ is_by (written w128 (to_z w128 (of_z w128 m) *ℤ to_z w128 (of_z w128 w)) (product (written w128 m (at_most {x = m} {m = 2147483648} (signed_size m fm))) (written w128 w (less_than {x = w} {m = 37778931862957161709568} size)))) tt

  -- the coordinate is not below the side
  pub low_stays : int_le (machine_product m w) (to_z w128 (of_z w128 v)) ≡ true → to_z w32 (of_z w32 m) ≡ int_min m (floor_of v w)
  low_stays e =
      let k = floor_greatest m v w positive (at_most_is (m *ℤ w) v ((λ i. int_le (sym product_is i) (sym (to_z-of_z w128 v fv) i)) ∙ e)) in
      to_z-of_z w32 m fm ∙ omega (arith, ints, clamps, k)

  -- it is below the side
  pub low_falls : int_le (machine_product m w) (to_z w128 (of_z w128 v)) ≡ false → floor_of v w ≡ int_min m (floor_of v w)
  low_falls e =
      let k = at_most_by (floor_of v w) m w positive (floor_below v w positive) (not_at_most (m *ℤ w) v ((λ i. int_le (sym product_is i) (sym (to_z-of_z w128 v fv) i)) ∙ e)) in
      omega (arith, ints, clamps, k)

  -- the coordinate is not above the side
  pub high_stays : int_le (to_z w128 (of_z w128 v)) (machine_product m w) ≡ true → to_z w32 (of_z w32 m) ≡ int_max m (ceiling_of v w)
  high_stays e =
      let k = ceiling_least m v w positive (at_most_is v (m *ℤ w) ((λ i. int_le (sym (to_z-of_z w128 v fv) i) (sym product_is i)) ∙ e)) in
      to_z-of_z w32 m fm ∙ omega (arith, ints, clamps, k)

  -- it is above the side
  pub high_rises : int_le (to_z w128 (of_z w128 v)) (machine_product m w) ≡ false → ceiling_of v w ≡ int_max m (ceiling_of v w)
  high_rises e =
      let k = at_most_by m (ceiling_of v w) w positive (not_at_most v (m *ℤ w) ((λ i. int_le (sym (to_z-of_z w128 v fv) i) (sym product_is i)) ∙ e)) (ceiling_above v w positive) in
      omega (arith, ints, clamps, k)
