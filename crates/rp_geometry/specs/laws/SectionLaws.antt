-- The laws over horizontal sections, as statements. Each is proved by the function whose contract names it.
use Rattle.std.specs.Prelude.{◌≡◌, ℕ, ◌<◌, ◌≤◌, ◌+◌, unsigned_abs, IsTrue, ◌⊎◌, ◌↔◌, ℤ, pos, neg_ℤ, ◌+ℤ◌, ◌*ℤ◌, ◌≤ℤ◌, ◌<ℤ◌, List, [], ◌∷◌, length, Some, IfSome, IsSome, IsNone}
use Rattle.std.specs.List.{AllByRecursion, AllZip}
use Rattle.rp_geometry.specs.Geometry.{RationalPoint, HalfSpace, IsPoint, IsHalfSpace, IsKeptPoint, SamePlace, point_of, half_space_of, half_edge, is_cube_point}
use Rattle.rp_geometry.specs.sets.Shape.{Part, IsMember, shape_of_cell, shape_of_parts}
use Rattle.rp_geometry.specs.sets.Contact.{IsCloseTo}
use Rattle.rp_geometry.specs.searches.Certificate.{Multiple, weighted_sum}
use Rattle.rp_geometry.specs.searches.Vertex.{det3, meeting_point}
use Rattle.rp_geometry.specs.searches.Elimination.{half_spaces_of, factors_of}
use Rattle.rp_geometry.specs.sections.Trace.{Trace, has_trace, trace_at, trace_holds, with_sides, IsHeight, IsAtHeight}
use Rattle.rp_geometry.specs.sections.Ring.{RingStep, turns_of, is_ring, trace_meeting, ring_of}
use Rattle.rp_geometry.specs.sections.Flat.{is_flat, is_level_kind, is_trace_kind, first_flat}
use Rattle.rp_geometry.specs.sections.Slice.{Slice, ring, flat, is_slice, slice_of, IsInSlices}
use Rattle.rp_geometry.specs.laws.CellLaws.{AreHalfSpaces, StandAt, ComesBefore, AreRising}

-- a member of the cell at height z
pub record IsMemberAt (z : ℤ) (cell : List HalfSpace) (p : RationalPoint) : Type 0 where
  pub member : IsMember (shape_of_cell cell) p
  pub height : IsAtHeight z p

-- the cell has a member at height z
abbrev pub HasMemberAt : ℤ → List HalfSpace → Type 0
HasMemberAt z cell = (p : RationalPoint) × IsMemberAt z cell p

-- the steps are a ring of the cell at height z
abbrev pub IsRing : ℤ → List HalfSpace → List RingStep → Type 0
IsRing z cell steps = IsTrue (is_ring z cell steps)

-- ---- a member or a certificate

-- at a height a cell has either a member or a flat certificate, never both
abbrev pub MemberOrFlat : Type 0
MemberOrFlat = (z : ℤ) (cell : List HalfSpace) → IsHeight z → AreHalfSpaces cell →
    (HasMemberAt z cell ⊎ ((terms : List Multiple) × IsTrue (is_flat z cell terms)))
    × (HasMemberAt z cell → ((terms : List Multiple) × IsTrue (is_flat z cell terms)) → ⊥)

-- the first flat certificate passes the test, and it is found iff the cell has no member at the height
pub record FindsFlat (z : ℤ) (cell : List HalfSpace) : Type 0 where
  pub passes : IfSome (first_flat z cell) (λ terms. IsTrue (is_flat z cell terms))
  pub some : IsSome (first_flat z cell) ↔ (¬ HasMemberAt z cell)
  pub none : IsNone (first_flat z cell) ↔ HasMemberAt z cell

-- the search for a flat certificate finds one iff the cell has no member at the height
abbrev pub FlatIsFound : Type 0
FlatIsFound = (z : ℤ) (cell : List HalfSpace) → IsHeight z → AreHalfSpaces cell → FindsFlat z cell

-- there are one or more terms, all factors are positive, a and b each add up to 0, and the terms are of one of the two kinds
abbrev pub RefuteFlat : ℤ → List Multiple → Type 0
RefuteFlat z terms =
    (0 < length terms) × AllByRecursion (λ t. pos 0 <ℤ t.factor) terms
    × (weighted_sum (λ h. h.a) terms ≡ pos 0) × (weighted_sum (λ h. h.b) terms ≡ pos 0) × (IsTrue (is_level_kind z terms) ⊎ IsTrue (is_trace_kind z terms))

-- the first flat certificate: terms at rising places of the flat list that refute, factors without a common divisor, and no earlier list of places refutes
pub record IsFirstFlat (z : ℤ) (cell : List HalfSpace) (terms : List Multiple) : Type 0 where
  pub places : List ℕ
  pub rising : AreRising places
  pub stand : StandAt (with_sides cell) places (half_spaces_of terms)
  pub refute : RefuteFlat z terms
  pub lowest : (d : ℕ) → AllByRecursion (λ v. (k : ℤ) × (v ≡ pos d *ℤ k)) (factors_of terms) → d ≡ 1
  pub first : (earlier : List ℕ) (others : List Multiple) → AreRising earlier → ComesBefore earlier places → StandAt (with_sides cell) earlier (half_spaces_of others) → ¬ RefuteFlat z others

-- the search finds the first flat certificate, and only this one is first
abbrev pub FirstFlatIsFirst : Type 0
FirstFlatIsFirst = (z : ℤ) (cell : List HalfSpace) → AreHalfSpaces cell →
    IfSome (first_flat z cell) (λ terms. IsFirstFlat z cell terms)
    × ((terms : List Multiple) → IsFirstFlat z cell terms → first_flat z cell ≡ Some terms)

-- ---- rings

-- if there is a ring, a point of the cube at the height is a member iff all edges hold it
abbrev pub RingHoldsTheMembers : Type 0
RingHoldsTheMembers = (z : ℤ) (cell : List HalfSpace) (steps : List RingStep) → IsHeight z → IsRing z cell steps →
    (p : RationalPoint) → IsPoint p → IsAtHeight z p → IsTrue (is_cube_point p) →
    IsMember (shape_of_cell cell) p ↔ AllByRecursion (λ s. IsTrue (trace_holds s.edge p)) steps

-- if there is a ring, the cell has a member at the height
abbrev pub RingShowsMember : Type 0
RingShowsMember = (z : ℤ) (cell : List HalfSpace) (steps : List RingStep) → IsHeight z → IsRing z cell steps → HasMemberAt z cell

-- a cell has at most one ring at a height
abbrev pub RingIsTheOnlyOne : Type 0
RingIsTheOnlyOne = (z : ℤ) (cell : List HalfSpace) (steps others : List RingStep) → IsRing z cell steps → IsRing z cell others → steps ≡ others

-- a cell with a member at a height has a ring there
abbrev pub MemberHasRing : Type 0
MemberHasRing = (z : ℤ) (cell : List HalfSpace) → IsHeight z → AreHalfSpaces cell → HasMemberAt z cell → (steps : List RingStep) × IsRing z cell steps

-- if the cell has a member at the height, the ring computed is its ring
abbrev pub RingIsFound : Type 0
RingIsFound = (z : ℤ) (cell : List HalfSpace) → IsHeight z → AreHalfSpaces cell → HasMemberAt z cell → IsRing z cell (ring_of z cell)

-- the slice of a cell at a height: its ring, or its first flat certificate
abbrev pub IsSliceOf : ℤ → List HalfSpace → Slice → Type 0
IsSliceOf z cell (ring steps) = IsRing z cell steps
IsSliceOf z cell (flat terms) = IsFirstFlat z cell terms

-- the slice computed is the slice of the cell, the only one, and passes the test
pub record FindsSlice (z : ℤ) (cell : List HalfSpace) : Type 0 where
  pub is : IsSliceOf z cell (slice_of z cell)
  pub only : (s : Slice) → IsSliceOf z cell s → s ≡ slice_of z cell
  pub passes : IsTrue (is_slice z cell (slice_of z cell))

-- at each height of the cube a cell has exactly one slice, the computed one
abbrev pub SliceIsFound : Type 0
SliceIsFound = (z : ℤ) (cell : List HalfSpace) → IsHeight z → AreHalfSpaces cell → FindsSlice z cell

-- ---- what slices show together

-- if each slice passes the test for its part, a point of the cube at the height is a member of the parts iff a slice shows it
abbrev pub SlicesShowTheMembers : Type 0
SlicesShowTheMembers = (z : ℤ) (parts : List Part) (slices : List Slice) → IsHeight z → AllZip (λ part s. IsTrue (is_slice z part.cell s)) parts slices →
    (p : RationalPoint) → IsPoint p → IsAtHeight z p → IsTrue (is_cube_point p) →
    IsMember (shape_of_parts parts) p ↔ IsInSlices p slices

-- ---- sizes

-- the greatest size of d of a trace at a height of the cube, 2 ^ 50
abbrev pub greatest_trace_offset : ℕ
greatest_trace_offset = 1125899906842624

-- the numbers of the trace are within their bounds
pub record IsSmallTrace (t : Trace) : Type 0 where
  pub a : unsigned_abs t.a ≤ half_edge
  pub b : unsigned_abs t.b ≤ half_edge
  pub d : unsigned_abs t.d ≤ greatest_trace_offset

-- at a height of the cube the trace of a half-space is within the bounds of traces
abbrev pub TraceIsSmall : Type 0
TraceIsSmall = (z : ℤ) (h : HalfSpace) → IsHeight z → IsHalfSpace h → IsSmallTrace (trace_at z h)

-- the horizontal plane at height z, as a half-space
abbrev pub level_plane : ℤ → HalfSpace
level_plane z = half_space_of (pos 0) (pos 0) (pos 1) (neg_ℤ z)

-- two traces meet in the point where their planes and the horizontal plane of the height meet
abbrev pub TracesMeetWherePlanesDo : Type 0
TracesMeetWherePlanesDo = (z : ℤ) (f g : HalfSpace) → IsTrue (has_trace f) → IsTrue (has_trace g) → trace_meeting z (trace_at z f) (trace_at z g) ≡ meeting_point f g (level_plane z)

-- the edges of a ring are within the bounds of traces, and its ends are points as the program stores them
abbrev pub RingIsKept : Type 0
RingIsKept = (z : ℤ) (cell : List HalfSpace) (steps : List RingStep) → IsHeight z → AreHalfSpaces cell → IsRing z cell steps → AllByRecursion (λ s. IsSmallTrace s.edge × IsKeptPoint s.end) steps

-- a ring has at most four more steps than the cell has half-spaces
abbrev pub RingIsShort : Type 0
RingIsShort = (z : ℤ) (cell : List HalfSpace) (steps : List RingStep) → IsRing z cell steps → length steps ≤ length cell + 4

-- ---- the closure of a section

-- a point of the closure of the section: a point of height z with members of the cell at height z arbitrarily close to it
pub record IsNearAt (z : ℤ) (cell : List HalfSpace) (p : RationalPoint) : Type 0 where
  pub point : IsPoint p
  pub height : IsAtHeight z p
  pub close : (n : ℕ) → 1 ≤ n → (q : RationalPoint) × IsMemberAt z cell q × IsCloseTo n p q

-- the sum of k times the first point and m times the second, in homogeneous coordinates
abbrev pub mix : ℤ → RationalPoint → ℤ → RationalPoint → RationalPoint
mix k q m r = point_of (k *ℤ q.x +ℤ m *ℤ r.x) (k *ℤ q.y +ℤ m *ℤ r.y) (k *ℤ q.z +ℤ m *ℤ r.z) (k *ℤ q.w +ℤ m *ℤ r.w)

-- p is between q and r: a sum of positive multiples of both; it equals one of them only if all three are equal
pub record IsBetween (p q r : RationalPoint) : Type 0 where
  pub of_first : ℤ
  pub of_second : ℤ
  pub first_positive : pos 0 <ℤ of_first
  pub second_positive : pos 0 <ℤ of_second
  pub place : SamePlace p (mix of_first q of_second r)

-- a corner of the closure: a point of it that is between no two other points of it
pub record IsCornerAt (z : ℤ) (cell : List HalfSpace) (p : RationalPoint) : Type 0 where
  pub near : IsNearAt z cell p
  pub alone : (q r : RationalPoint) → IsNearAt z cell q → IsNearAt z cell r → IsBetween p q r → SamePlace q p × SamePlace r p

-- the point is the end of one of the steps
abbrev pub IsEnd : RationalPoint → List RingStep → Type 0
IsEnd p [] = ⊥
IsEnd p (s ∷ steps) = SamePlace s.end p ⊎ IsEnd p steps

-- a point is a corner of the closure iff it is an end of the ring
abbrev pub EndsAreTheCorners : Type 0
EndsAreTheCorners = (z : ℤ) (cell : List HalfSpace) (steps : List RingStep) → IsHeight z → IsRing z cell steps →
    (p : RationalPoint) → IsPoint p → IsCornerAt z cell p ↔ IsEnd p steps

-- the third point is on the left of the line from the first to the second, or on it
abbrev pub IsOnTheLeft : RationalPoint → RationalPoint → RationalPoint → Type 0
IsOnTheLeft p q r = pos 0 ≤ℤ det3 p.x p.y p.w q.x q.y q.w r.x r.y r.w

-- the closure lies on the left of each line from an end to the next
abbrev pub ClosureIsOnTheLeft : Type 0
ClosureIsOnTheLeft = (z : ℤ) (cell : List HalfSpace) (steps : List RingStep) → IsHeight z → IsRing z cell steps →
    (p : RationalPoint) → IsNearAt z cell p → AllByRecursion (λ u. IsOnTheLeft u.step.end u.next.end p) (turns_of steps)
