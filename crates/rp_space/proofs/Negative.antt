-- Negatives of the numbers of a common point, as the machine makes them.
use Rattle.std.proofs.Common.{◌≡◌, ◌*◌, ◌^◌, ◌<ℤ◌, ℤ, pos, neg_ℤ, ◌-ℤ◌, to_z, of_z, ◌∙◌, arith}
use mir.Syntax.{w128}
use Rattle.rp_algebra.specs.Within.{IsWithin}
use Rattle.rp_algebra.proofs.Machine.{code, is_by}
use Rattle.rp_algebra.proofs.Numbers.{from_zero}
use Rattle.rp_geometry.specs.Geometry.{IsSmallPoint, point_of}

-- the negative of a coordinate
pub negated_coordinate : (v : ℤ) → IsWithin (18 * 2 ^ 96) v → to_z w128 (of_z w128 (pos 0 -ℤ to_z w128 (of_z w128 v))) ≡ neg_ℤ v
negated_coordinate v h = is_by (search code depth 30 fits 100000) tt ∙ from_zero v

-- the negative of a weight
pub negated_weight : (v : ℤ) → IsWithin (6 * 2 ^ 72) v → to_z w128 (of_z w128 (pos 0 -ℤ to_z w128 (of_z w128 v))) ≡ neg_ℤ v
negated_weight v h = is_by (search code depth 30 fits 100000) tt ∙ from_zero v

-- numbers of these sizes with a weight above 0 are those of a small point
pub small_numbers : (x y z w : ℤ) → IsWithin (18 * 2 ^ 96) x → IsWithin (18 * 2 ^ 96) y → IsWithin (18 * 2 ^ 96) z → IsWithin (6 * 2 ^ 72) w → pos 0 <ℤ w → IsSmallPoint (point_of x y z w)
small_numbers x y z w hx hy hz hw p = record {
  positive = p;
  x = omega (arith, hx.abs_le);
  y = omega (arith, hy.abs_le);
  z = omega (arith, hz.abs_le);
  w = omega (arith, hw.abs_le);
}
