-- Rings: the edges and ends around the section of a cell at a height, and their computation.
use Rattle.std.specs.Prelude.{Bool, true, false, ◌&&◌, ◌||◌, not, ℤ, ◌-ℤ◌, ◌*ℤ◌, List, [], ◌∷◌, length, nat_le, Option, Some, None}
use Rattle.std.specs.List.{list_all, list_any}
use Rattle.rp_algebra.specs.Integer.{is_zero, is_positive, is_nonnegative}
use Rattle.rp_geometry.specs.Geometry.{RationalPoint, HalfSpace, point_of, point_eq, reduced_point}
use Rattle.rp_geometry.specs.searches.Search.{all_of_pairs}
use Rattle.rp_geometry.specs.searches.Vertex.{normal_point}
use Rattle.rp_geometry.specs.sections.Trace.{Trace, has_trace, trace_at, trace_value, trace_eq, holds_level, is_at_height, level_point, with_sides, traces}

-- ---- the definition

-- a step along a ring: an edge, and the point at which it ends
pub record RingStep : Type 0 where
  pub edge : Trace
  pub end : RationalPoint

-- a step and the next one
pub record Turn : Type 0 where
  pub step : RingStep
  pub next : RingStep

-- the turn of a step and the next one
abbrev pub turn_of : RingStep → RingStep → Turn
turn_of s t = record { step = s; next = t }

-- each step of a list with the next one; the last step is followed by the given one
abbrev pub turns_to : RingStep → List RingStep → List Turn
turns_to first [] = []
turns_to first (s ∷ []) = turn_of s first ∷ []
turns_to first (s ∷ t ∷ steps) = turn_of s t ∷ turns_to first (t ∷ steps)

-- each step of a ring with the next one; after the last step comes the first
abbrev pub turns_of : List RingStep → List Turn
turns_of [] = []
turns_of (s ∷ steps) = turns_to s (s ∷ steps)

-- the cross product of the directions of two traces: positive iff the second is less than half a turn counterclockwise from the first
abbrev pub cross : Trace → Trace → ℤ
cross s t = s.a *ℤ t.b -ℤ t.a *ℤ s.b

-- the angle of the direction, counterclockwise from (1, 0), is below half a turn
abbrev pub is_upper : Trace → Bool
is_upper t = is_positive t.b || (is_zero t.b && is_positive t.a)

-- the direction of the first trace has a smaller angle than that of the second, given for each whether its angle is below half a turn
abbrev pub is_before_by : Bool → Bool → Trace → Trace → Bool
is_before_by true true s t = is_positive (cross s t)
is_before_by true false s t = true
is_before_by false true s t = false
is_before_by false false s t = is_positive (cross s t)

-- the direction of the first trace has a smaller angle than that of the second
abbrev pub is_angle_before : Trace → Trace → Bool
is_angle_before s t = is_before_by (is_upper s) (is_upper t) s t

-- the angles of the edges rise strictly, from the first step to the last
abbrev pub angles_rise : List RingStep → Bool
angles_rise [] = true
angles_rise (s ∷ []) = true
angles_rise (s ∷ t ∷ steps) = is_angle_before s.edge t.edge && angles_rise (t ∷ steps)

-- the numbers are those of a point in lowest terms
abbrev pub is_lowest_point : RationalPoint → Bool
is_lowest_point p = is_positive p.w && point_eq (reduced_point p) p

-- the trace is that of a half-space of the list
abbrev pub is_trace_of : ℤ → List HalfSpace → Trace → Bool
is_trace_of z list t = list_any (λ h. has_trace h && trace_eq (trace_at z h) t) list

-- no trace of the list is negative at the point
abbrev pub all_traces_hold : ℤ → List HalfSpace → RationalPoint → Bool
all_traces_hold z list p = list_all (λ h. not (has_trace h) || is_nonnegative (trace_value (trace_at z h) p)) list

-- a step of a ring: its edge is a trace of the list; its end is a point of height z, in lowest terms, with no negative trace
abbrev pub is_step : ℤ → List HalfSpace → RingStep → Bool
is_step z list s = is_trace_of z list s.edge && is_lowest_point s.end && is_at_height z s.end && all_traces_hold z list s.end

-- a turn of a ring: the end is on its edge and on the next edge, the next end is another point, and the next edge turns left
abbrev pub is_turn : Turn → Bool
is_turn u =
    is_zero (trace_value u.step.edge u.step.end) && is_zero (trace_value u.next.edge u.step.end)
    && not (point_eq u.step.end u.next.end) && is_positive (cross u.step.edge u.next.edge)

-- each half-space of the list without a trace holds the points at height z
abbrev pub all_levels_hold : ℤ → List HalfSpace → Bool
all_levels_hold z list = list_all (λ h. has_trace h || holds_level z h) list

-- a ring of a cell at height z: three or more steps, with turns and rising angles; each half-space without a trace holds the points at the height
abbrev pub is_ring : ℤ → List HalfSpace → List RingStep → Bool
is_ring z cell steps =
    nat_le 3 (length steps) && list_all (is_step z (with_sides cell)) steps && list_all is_turn (turns_of steps)
    && angles_rise steps && all_levels_hold z (with_sides cell)

-- ---- the computation

-- the point of height z on two traces by Cramer's rule, not in lowest terms and perhaps of negative weight
abbrev pub crossing : ℤ → Trace → Trace → RationalPoint
crossing z s t = point_of (s.b *ℤ t.d -ℤ t.b *ℤ s.d) (t.a *ℤ s.d -ℤ s.a *ℤ t.d) (z *ℤ cross s t) (cross s t)

-- the one point of height z on two traces, in lowest terms; none if they are parallel
unfoldable pub trace_meeting : ℤ → Trace → Trace → Option RationalPoint
trace_meeting z s t = normal_point (crossing z s t)

-- the point, if no trace of the list is negative there
abbrev pub corner_if : List Trace → Option RationalPoint → Option RationalPoint
corner_if ts None = None
corner_if ts (Some p) = elim (list_all (λ t. is_nonnegative (trace_value t p)) ts) [ true ↦ Some p | false ↦ None ]

-- the points where two traces meet and no trace is negative; a point occurs once for each pair that meets there
unfoldable pub corners : ℤ → List Trace → List RationalPoint
corners z ts = all_of_pairs (λ s t. corner_if ts (trace_meeting z s t)) ts

-- the two points are different, and the trace is 0 at both
abbrev pub joins_both : Trace → RationalPoint → RationalPoint → Bool
joins_both t p q = is_zero (trace_value t p) && is_zero (trace_value t q) && not (point_eq p q)

-- the trace is 0 at two different points of the list
abbrev pub is_edge_of : List RationalPoint → Trace → Bool
is_edge_of points t = list_any (λ p. list_any (joins_both t p) points) points

-- the list with a trace inserted by its angle; unchanged if it has a trace of equal angle
abbrev pub insert_edge : Trace → List Trace → List Trace
insert_edge t [] = t ∷ []
insert_edge t (s ∷ ts) = elim (is_angle_before t s) [
  | true ↦ t ∷ s ∷ ts
  | false ↦ elim (is_angle_before s t) [ true ↦ s ∷ insert_edge t ts | false ↦ s ∷ ts ]
]

-- the traces of the list that are edges, sorted by their angles
abbrev pub edges_among : List RationalPoint → List Trace → List Trace
edges_among points [] = []
edges_among points (t ∷ ts) = elim (is_edge_of points t) [ true ↦ insert_edge t (edges_among points ts) | false ↦ edges_among points ts ]

-- the point of height z on two edges; if they are parallel, as no edges of a ring are, the point on the axis
abbrev pub end_at : ℤ → Trace → Trace → RationalPoint
end_at z s t = elim (trace_meeting z s t) [ Some p ↦ p | None ↦ level_point z ]

-- the step along an edge to the next edge
abbrev pub step_to : ℤ → Trace → Trace → RingStep
step_to z s t = record { edge = s; end = end_at z s t }

-- a step along each edge of a list to the next one; the last edge is followed by the given one
abbrev pub steps_to : ℤ → Trace → List Trace → List RingStep
steps_to z first [] = []
steps_to z first (e ∷ []) = step_to z e first ∷ []
steps_to z first (e ∷ f ∷ edges) = step_to z e f ∷ steps_to z first (f ∷ edges)

-- a step along each edge to the next one; after the last edge comes the first
abbrev pub steps_along : ℤ → List Trace → List RingStep
steps_along z [] = []
steps_along z (e ∷ edges) = steps_to z e (e ∷ edges)

-- the ring of a cell that has a member at height z
unfoldable pub ring_of : ℤ → List HalfSpace → List RingStep
ring_of z cell = let ts = traces z (with_sides cell) in steps_along z (edges_among (corners z ts) ts)
