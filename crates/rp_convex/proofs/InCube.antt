-- Points of the weak system of a cell lie in the closed cube.
use Rattle.std.proofs.Common.{◌≡◌, ℤ, pos, ◌-ℤ◌, ◌≤ℤ◌, true, ◌&&◌, arith, neg_ℤ, ◌*ℤ◌, List}
use Rattle.std.specs.Prelude.{int_le}
use Rattle.rp_algebra.proofs.IntLaws.{linear}
use Rattle.rp_algebra.proofs.Tests.{and_true, at_most_true}
use Rattle.rp_algebra.proofs.Listed.{Listed, first, later, listed_right}
use Rattle.rp_geometry.specs.Geometry.{RationalPoint, HalfSpace, side_value, with_cube, cube_half_spaces, is_closed_cube_point, cube_bound}
use Rattle.rp_geometry.proofs.Boxes.{lower_x, upper_x, lower_y, upper_y, lower_z, upper_z}
use Rattle.rp_convex.proofs.Move.{IsWeak}

-- both differences of a coordinate to its bounds say that it is in range
range_true : (s t u v w : ℤ) → s ≡ v -ℤ u → t ≡ w -ℤ v → pos 0 ≤ℤ s → pos 0 ≤ℤ t → (int_le u v && int_le v w) ≡ true
range_true s t u v w e f h k = and_true (int_le u v) (int_le v w) (at_most_true u v (omega (arith, linear, e))) (at_most_true v w (omega (arith, linear, f)))

-- a point of the weak system lies in the closed cube
pub weak_in_cube : (cell : List HalfSpace) (p : RationalPoint) → IsWeak (with_cube cell) p → is_closed_cube_point p ≡ true
weak_in_cube cell p weak =
    and_true _ _ (and_true _ _
    (range_true _ _ (neg_ℤ cube_bound *ℤ p.w) p.x (cube_bound *ℤ p.w) (lower_x p.x p.y p.z p.w (neg_ℤ cube_bound)) (upper_x p.x p.y p.z p.w cube_bound) (side _ first) (side _ (later first)))
    (range_true _ _ (neg_ℤ cube_bound *ℤ p.w) p.y (cube_bound *ℤ p.w) (lower_y p.x p.y p.z p.w (neg_ℤ cube_bound)) (upper_y p.x p.y p.z p.w cube_bound) (side _ (later (later first))) (side _ (later (later (later first))))))
    (range_true _ _ (neg_ℤ cube_bound *ℤ p.w) p.z (cube_bound *ℤ p.w) (lower_z p.x p.y p.z p.w (neg_ℤ cube_bound)) (upper_z p.x p.y p.z p.w cube_bound) (side _ (later (later (later (later first))))) (side _ (later (later (later (later (later first)))))))
  where
    side : (h : HalfSpace) → Listed h cube_half_spaces → pos 0 ≤ℤ side_value h p
    side h l = weak.sides h (listed_right h cell cube_half_spaces l)
