-- The trapezoids of a prism: one cell for each edge of its polygon, from a common floor up to the edge.
use Rattle.std.specs.Prelude.{ℤ, pos, negsuc, neg_ℤ, List, [], ◌∷◌}
use Rattle.std.specs.Int.{int_min}
use Rattle.rp_geometry.specs.Geometry.{HalfSpace, half_space_of, reduced_half_space}
use Rattle.rp_geometry.specs.sets.Prism.{Corner, Edge, left_end, right_end, below_edge, Prism}

-- the least y of some corners and y
abbrev pub least_from : ℤ → List Corner → ℤ
least_from y [] = y
least_from y (c ∷ cs) = least_from (int_min y c.y) cs

-- the least y of the corners
abbrev pub least_y : List Corner → ℤ
least_y [] = pos 0
least_y (c ∷ cs) = least_from c.y cs

-- the trapezoid of an edge: between the x of its ends, from the least y up to the edge, between the heights
abbrev pub trapezoid : Prism → Edge → List HalfSpace
trapezoid s e =
    half_space_of (pos 1) (pos 0) (pos 0) (neg_ℤ (left_end e).x) ∷ half_space_of (negsuc 0) (pos 0) (pos 0) (right_end e).x
    ∷ half_space_of (pos 0) (pos 1) (pos 0) (neg_ℤ (least_y s.corners)) ∷ reduced_half_space (below_edge e)
    ∷ half_space_of (pos 0) (pos 0) (pos 1) (neg_ℤ s.low) ∷ half_space_of (pos 0) (pos 0) (negsuc 0) s.high ∷ []
