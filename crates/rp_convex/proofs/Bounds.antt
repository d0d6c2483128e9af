-- The coefficients of the half-spaces of the list of a cell are small.
use Rattle.std.proofs.Common.{List}
use Rattle.std.specs.List.{AllByRecursion}
use Rattle.rp_geometry.specs.Geometry.{HalfSpace, IsHalfSpace, with_cube}
use Rattle.rp_geometry.specs.laws.CellLaws.{AreHalfSpaces}
use Rattle.rp_algebra.proofs.Listed.{all_map}
use Rattle.rp_geometry.proofs.Bounds.{with_cube_bounds}
use Rattle.rp_convex.proofs.Combination.{IsSmall}

-- a half-space within the bounds has small coefficients
small_of : (h : HalfSpace) → IsHalfSpace h → IsSmall h
small_of h k = record { a = record { abs_le = k.a }; b = record { abs_le = k.b }; c = record { abs_le = k.c } }

-- the coefficients of the half-spaces of the list of a cell are small
pub small_with_cube : (cell : List HalfSpace) → AreHalfSpaces cell → AllByRecursion IsSmall (with_cube cell)
small_with_cube cell h = all_map IsHalfSpace IsSmall small_of (with_cube cell) (with_cube_bounds cell h)
