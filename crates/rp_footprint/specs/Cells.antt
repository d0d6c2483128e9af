-- The trapezoid of an edge by its number, and whether it has a point, as the code computes them.
use Rattle.std.specs.Prelude.{ℕ, Bool, true, false, IsTrue, ℤ, pos, negsuc, neg_ℤ, ◌<ℤ◌, List, [], ◌∷◌, Option, Some, None, slice_index_or}
use Rattle.rp_geometry.specs.Geometry.{RationalPoint, HalfSpace, IntegerBox, half_space_of, reduced_half_space, all_hold, is_within_bound, cube_bound}
use Rattle.rp_geometry.specs.sets.Prism.{Corner, Edge, edge_of, edges_of, left_end, right_end, is_upright, below_line, is_corner_in_bounds, Prism}
use Rattle.rp_geometry.specs.parts.Trapezoid.{trapezoid}

-- the corner that is used if there is none
abbrev pub no_corner : Corner
no_corner = record { x = pos 0; y = pos 0 }

-- the edge with a number, from 0
abbrev pub edge_at : List Corner → ℕ → Edge
edge_at cs k = slice_index_or (edges_of cs) k (edge_of no_corner no_corner)

-- the trapezoid of an edge, if its ends differ in x
abbrev pub trapezoid_by : Prism → Bool → Edge → Option (List HalfSpace)
trapezoid_by s true e = None
trapezoid_by s false e = Some (trapezoid s e)

-- the trapezoid of the edge with a number, if its ends differ in x
abbrev pub trapezoid_at : Prism → ℕ → Option (List HalfSpace)
trapezoid_at s k = trapezoid_by s (is_upright (edge_at s.corners k)) (edge_at s.corners k)

-- the cell of an edge between two heights, from a y up to the edge
abbrev pub cell_under : ℤ → ℤ → ℤ → Corner → Corner → List HalfSpace
cell_under low high least l r =
    half_space_of (pos 1) (pos 0) (pos 0) (neg_ℤ l.x) ∷ half_space_of (negsuc 0) (pos 0) (pos 0) r.x
    ∷ half_space_of (pos 0) (pos 1) (pos 0) (neg_ℤ least) ∷ reduced_half_space (below_line l r)
    ∷ half_space_of (pos 0) (pos 0) (pos 1) (neg_ℤ low) ∷ half_space_of (pos 0) (pos 0) (negsuc 0) high ∷ []

-- the cell of an edge between two heights, from a y up to the edge, if its ends differ in x
abbrev pub cell_by : ℤ → ℤ → ℤ → Bool → Edge → Option (List HalfSpace)
cell_by low high least true e = None
cell_by low high least false e = Some (cell_under low high least (left_end e) (right_end e))

-- two corners within their bounds
pub record AreNear (c d : Corner) : Type 0 where
  pub first : IsTrue (is_corner_in_bounds c)
  pub second : IsTrue (is_corner_in_bounds d)

-- a left and a right corner within their bounds
pub record AreInOrder (l r : Corner) : Type 0 where
  pub near : AreNear l r
  pub order : l.x <ℤ r.x

-- the cell, if there is one, has the point
abbrev pub cell_holds : Option (List HalfSpace) → RationalPoint → Bool
cell_holds None p = false
cell_holds (Some cell) p = all_hold cell p

-- the sides and the heights of the cell under an edge, as a box
abbrev pub box_under : ℤ → ℤ → ℤ → Corner → Corner → IntegerBox
box_under low high least l r = record { x1 = l.x; y1 = least; z1 = low; x2 = r.x; y2 = pos 0; z2 = high }

-- two heights and a y within the bounds of boxes
pub record AreHeights (z1 z2 y : ℤ) : Type 0 where
  pub low : IsTrue (is_within_bound cube_bound z1)
  pub high : IsTrue (is_within_bound cube_bound z2)
  pub least : IsTrue (is_within_bound cube_bound y)
