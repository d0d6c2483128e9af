-- Vertices found one after another: each is the first that is not on all planes through those before.
use Rattle.std.specs.Prelude.{◌≡◌, ℕ, ◌-◌, ◌^◌, true, List, [], ◌∷◌, Some, bit_and}
use Rattle.rp_geometry.specs.Geometry.{RationalPoint, HalfSpace, with_cube}
use Rattle.rp_geometry.specs.searches.Vertex.{first_vertex}
use Rattle.rp_clip.specs.Firsts.{is_off, HasFirst}
use Rattle.rp_clip.specs.Masks.{mask_of}
use Rattle.rp_clip.specs.Tables.{Rows}

-- the places of a set whose planes pass through all points of a list
abbrev pub left_of : List HalfSpace → ℕ → List RationalPoint → ℕ
left_of cell set [] = set
left_of cell set (p ∷ ps) = left_of cell (bit_and set (mask_of cell p)) ps

-- each point is the first vertex that is not on all planes of the set that pass through the points before
abbrev pub AreTaken : List HalfSpace → ℕ → List RationalPoint → Type 0
AreTaken cell set [] = Unit {0}
AreTaken cell set (p ∷ ps) = (first_vertex (is_off cell set) (with_cube cell) ≡ Some p) × AreTaken cell (bit_and set (mask_of cell p)) ps

-- the points were found one after another, and the set has the planes through all of them
pub record IsTakenTo (cell : List HalfSpace) (set : ℕ) (points : List RationalPoint) : Type 0 where
  pub taken : AreTaken cell (2 ^ 128 - 1) points
  pub left : set ≡ left_of cell (2 ^ 128 - 1) points

-- every point off the first set is off the second
abbrev pub IsWithin : List HalfSpace → ℕ → ℕ → Type 0
IsWithin cell less set = (p : RationalPoint) → is_off cell less p ≡ true → is_off cell set p ≡ true

-- a table with the first vertex off the set, and off each set within it, if there is one
abbrev pub HasFirsts : ℕ → List HalfSpace → ℕ → Rows → Type 0
HasFirsts most cell set t = (less : ℕ) → IsWithin cell less set → HasFirst most cell less t
