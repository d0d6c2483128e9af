-- Sets of planes as the bits of a number: those of a cell from place 0 on, and the cube's six from place 64 on, so that their order is that of the list of the cell.
use Rattle.std.specs.Prelude.{◌≡◌, ℕ, ◌+◌, ◌-◌, ◌*◌, ◌^◌, ◌<◌, Bool, cond, nat_lt, List, Option, Some}
use Rattle.std.specs.List.{slice_get}
use Rattle.rp_algebra.specs.Integer.{is_zero}
use Rattle.rp_geometry.specs.Geometry.{RationalPoint, HalfSpace, side_value, cube_half_spaces}
use Rattle.rp_space.specs.Places.{bits_of, IsIn}

-- the half-space at a place: of the cell below 64, of the cube from 64 on
unfoldable pub half_at : List HalfSpace → ℕ → Option HalfSpace
half_at cell place = cond (nat_lt place 64) (slice_get cell place) (slice_get cube_half_spaces (place - 64))

-- the plane passes through the point
abbrev pub is_through : RationalPoint → HalfSpace → Bool
is_through p h = is_zero (side_value h p)

-- the places of the planes through a point
unfoldable pub mask_of : List HalfSpace → RationalPoint → ℕ
mask_of cell p = bits_of (is_through p) cube_half_spaces * 2 ^ 64 + bits_of (is_through p) cell

-- each place of the set has a half-space
abbrev pub HasHalfSpaces : List HalfSpace → ℕ → Type 0
HasHalfSpaces cell set = (place : ℕ) → IsIn set place → (h : HalfSpace) × (half_at cell place ≡ Some h)

-- each place is below 70, as the places of half-spaces are
abbrev pub HasLowPlaces : ℕ → Type 0
HasLowPlaces set = (i : ℕ) → IsIn set i → i < 70
