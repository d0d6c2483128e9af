-- The signs of the determinants of half-spaces, as sets of places in a list.
use Rattle.std.specs.Prelude.{Bool, true, false, ◌&&◌, List, [], ◌∷◌}
use Rattle.rp_algebra.specs.Integer.{is_zero}
use Rattle.rp_geometry.specs.Geometry.{HalfSpace}
use Rattle.rp_geometry.specs.searches.Vertex.{meeting_weight}
use Rattle.rp_space.specs.Places.{bits_of}
use Rattle.rp_elim.specs.declared.placed.Placed.{Placed}
use Rattle.rp_elim.specs.declared.sign_sets.Signs.{Signs}
use Rattle.rp_elim.specs.Sides.{has_sign}

-- the determinant of two half-spaces and one of a list is above 0 (true), or below 0 (false)
abbrev pub weight_has : Bool → HalfSpace → HalfSpace → Placed → Bool
weight_has s f g q = has_sign s (meeting_weight f g q.half)

-- the determinant of two half-spaces and one of a list is 0
abbrev pub is_flat : HalfSpace → HalfSpace → Placed → Bool
is_flat f g q = is_zero (meeting_weight f g q.half)

-- the places of a list at which this determinant is above 0, and those at which it is below 0
abbrev pub signs_of : HalfSpace → HalfSpace → List Placed → Signs
signs_of f g qs = record { above = bits_of (weight_has true f g) qs; below = bits_of (weight_has false f g) qs }

-- the signs of the determinants of k with each half-space of a list and those after it
abbrev pub signs_list : HalfSpace → List Placed → List Signs
signs_list k [] = []
signs_list k (p ∷ ps) = signs_of k p.half ps ∷ signs_list k ps

-- the signs of the determinants of three half-spaces, and of the first with each of the others and a fourth, allow the four to refute
abbrev pub may_be_fourth : HalfSpace → HalfSpace → HalfSpace → Placed → Bool
may_be_fourth e f g r =
    elim (has_sign true (meeting_weight e f g)) [
      | true ↦ weight_has false e f r && weight_has true e g r
      | false ↦ has_sign false (meeting_weight e f g) && (weight_has true e f r && weight_has false e g r)
    ]
