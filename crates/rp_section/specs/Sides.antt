-- The sides of a section: half-spaces with their traces, some of which bound the section.
use Rattle.std.specs.Prelude.{Bool, true, false, ◌&&◌, not, ℤ, List, [], ◌∷◌, Option, Some, None, is_some}
use Rattle.std.specs.List.{list_all, list_any}
use Rattle.rp_algebra.specs.Integer.{is_zero, is_nonnegative}
use Rattle.rp_geometry.specs.Geometry.{RationalPoint, HalfSpace, side_value}
use Rattle.rp_geometry.specs.searches.Search.{first_of}
use Rattle.rp_geometry.specs.searches.Vertex.{cramer_point, meeting_point}
use Rattle.rp_geometry.specs.sections.Trace.{has_trace, trace_at}
use Rattle.rp_geometry.specs.sections.Ring.{RingStep, is_angle_before}
use Rattle.rp_space.specs.PositivePoint.{positive_point}
use Rattle.rp_section.specs.declared.side.Side.{Side}

-- a half-space with its trace at a height
abbrev pub side_of : ℤ → HalfSpace → Side
side_of z h = record { half = h; edge = trace_at z h }

-- the half-spaces of a list that have a trace, each with its trace
abbrev pub sides_of : ℤ → List HalfSpace → List Side
sides_of z [] = []
sides_of z (h ∷ hs) = elim (has_trace h) [ true ↦ side_of z h ∷ sides_of z hs | false ↦ sides_of z hs ]

-- no half-space of the sides is negative at the point
abbrev pub are_above : List Side → RationalPoint → Bool
are_above sides p = list_all (λ s. is_nonnegative (side_value s.half p)) sides

-- the point, if no half-space of the sides is negative there
abbrev pub if_above : List Side → Option RationalPoint → Option RationalPoint
if_above sides None = None
if_above sides (Some p) = elim (are_above sides p) [ true ↦ Some p | false ↦ None ]

-- the point of a horizontal plane on two sides, not in lowest terms, if no half-space of the sides is negative there
abbrev pub spot_at : HalfSpace → List Side → Side → Side → Option RationalPoint
spot_at level sides f g = if_above sides (positive_point (cramer_point f.half g.half level))

-- a side has a point of the section with the second side, other than the first point: the second side is not 0 at that one
abbrev pub is_other : HalfSpace → List Side → Side → RationalPoint → Side → Bool
is_other level sides f p g = not (is_zero (side_value g.half p)) && is_some (spot_at level sides f g)

-- a side has two different points of the section, so it bounds the section
abbrev pub has_other : HalfSpace → List Side → Side → Option RationalPoint → Bool
has_other level sides f None = false
has_other level sides f (Some p) = list_any (is_other level sides f p) sides

-- the side bounds the section: it has another point of it than its first one
abbrev pub is_bound : HalfSpace → List Side → Side → Bool
is_bound level sides f = has_other level sides f (first_of (spot_at level sides f) sides)

-- the list with a side inserted by the angle of its edge; unchanged if it has a side of equal angle
abbrev pub insert_side : Side → List Side → List Side
insert_side s [] = s ∷ []
insert_side s (t ∷ ts) = elim (is_angle_before s.edge t.edge) [
  | true ↦ s ∷ t ∷ ts
  | false ↦ elim (is_angle_before t.edge s.edge) [ true ↦ t ∷ insert_side s ts | false ↦ t ∷ ts ]
]

-- the list with a side inserted, if the side bounds the section
abbrev pub add_bound : HalfSpace → List Side → Side → List Side → List Side
add_bound level sides s bounds = elim (is_bound level sides s) [ true ↦ insert_side s bounds | false ↦ bounds ]

-- the sides of a list that bound the section, sorted by the angles of their edges
abbrev pub bounds_of : HalfSpace → List Side → List Side → List Side
bounds_of level sides [] = []
bounds_of level sides (s ∷ rest) = add_bound level sides s (bounds_of level sides rest)

-- the point of a horizontal plane on two sides; the other given point if they are parallel
abbrev pub end_of : HalfSpace → RationalPoint → Side → Side → RationalPoint
end_of level other s t = elim (meeting_point s.half t.half level) [ Some p ↦ p | None ↦ other ]

-- a step along the edge of a side to the edge of the next one
abbrev pub side_step : HalfSpace → RationalPoint → Side → Side → RingStep
side_step level other s t = record { edge = s.edge; end = end_of level other s t }

-- a step along each side to the next one; the last side is followed by the given one
abbrev pub side_steps_to : HalfSpace → RationalPoint → Side → List Side → List RingStep
side_steps_to level other first [] = []
side_steps_to level other first (s ∷ []) = side_step level other s first ∷ []
side_steps_to level other first (s ∷ t ∷ sides) = side_step level other s t ∷ side_steps_to level other first (t ∷ sides)

-- a step along each side to the next one; after the last comes the first
abbrev pub side_steps : HalfSpace → RationalPoint → List Side → List RingStep
side_steps level other [] = []
side_steps level other (s ∷ sides) = side_steps_to level other s (s ∷ sides)
