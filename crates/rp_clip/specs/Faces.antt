-- The planes that all vertices of a cell, or of one of its faces, have in common.
use Rattle.std.specs.Prelude.{◌≡◌, ℕ, ◌+◌, cond, nat_eq, pos, ◌<ℤ◌, List, [], ◌∷◌, ◌++◌, take, drop, Some, bit_and}
use Rattle.std.specs.List.{Contains, slice_get}
use Rattle.rp_geometry.specs.Geometry.{RationalPoint, HalfSpace, IsPoint, side_value, cube_half_spaces}

-- the common places so far and of one more mask, if the mask has all places of the set
abbrev pub common_with : ℕ → ℕ → ℕ → ℕ
common_with set common mask = cond (nat_eq (bit_and mask set) set) (bit_and common mask) common

-- the common places so far and of the masks of a list that have all places of the set
abbrev pub common_of : ℕ → ℕ → List ℕ → ℕ
common_of set common [] = common
common_of set common (mask ∷ masks) = common_of set (common_with set common mask) masks

-- the half-space at the place has a side of its own: a point of its plane is strictly inside all others of the list
pub record HasSide (cell : List HalfSpace) (place : ℕ) : Type 0 where
  pub half : HalfSpace
  pub at : slice_get cell place ≡ Some half
  pub point : RationalPoint
  pub is_point : IsPoint point
  pub on : side_value half point ≡ pos 0
  pub inside : (g : HalfSpace) → Contains (take place cell ++ drop (place + 1) cell ++ cube_half_spaces) g → pos 0 <ℤ side_value g point
