-- Worked rings and flat certificates, by computation.
use Rattle.std.specs.Prelude.{◌≡◌, ℤ, pos, negsuc, neg_ℤ, true, false, List, [], ◌∷◌, Some, None, refl}
use Rattle.rp_algebra.specs.Integer.{gcd, gcd_of}
use Rattle.rp_geometry.specs.Geometry.{HalfSpace, half_space_of, point_of, box_half_spaces, reduced_point}
use Rattle.rp_geometry.specs.searches.Elimination.{multiple_of, reduced_terms}
use Rattle.rp_geometry.specs.sections.Ring.{RingStep, is_ring, trace_meeting, corners, ring_of}
use Rattle.rp_geometry.specs.sections.Trace.{trace_of, trace_at}
use Rattle.rp_geometry.specs.sections.Flat.{first_flat, flat_of_one, flat_of_two, flat_of_three}
use Rattle.rp_geometry.specs.sections.Slice.{ring, slice_of}

-- a step
abbrev step : ℤ → ℤ → ℤ → ℤ → ℤ → ℤ → ℤ → RingStep
step a b d x y z w = record { edge = trace_of a b d; end = point_of x y z w }

-- a box from 0 to 10
abbrev box10 : List HalfSpace
box10 = box_half_spaces (record { x1 = pos 0; y1 = pos 0; z1 = pos 0; x2 = pos 10; y2 = pos 10; z2 = pos 10 })

-- its ring at height 5
abbrev ring10 : List RingStep
ring10 = step (pos 1) (pos 0) (pos 0) (pos 0) (pos 0) (pos 5) (pos 1) ∷ step (pos 0) (pos 1) (pos 0) (pos 10) (pos 0) (pos 5) (pos 1)
    ∷ step (negsuc 0) (pos 0) (pos 10) (pos 10) (pos 10) (pos 5) (pos 1) ∷ step (pos 0) (negsuc 0) (pos 10) (pos 0) (pos 10) (pos 5) (pos 1) ∷ []

-- the test takes it
box_ring : is_ring (pos 5) box10 ring10 ≡ true
unfolding gcd gcd_of reduced_point trace_at
box_ring = refl

-- another height is not that of the ring
box_not_ring : is_ring (pos 10) box10 ring10 ≡ false
unfolding gcd gcd_of reduced_point trace_at
box_not_ring = refl

-- at height 10 the box has no member, since its upper face does not belong to it
box_flat : first_flat (pos 10) box10 ≡ Some (multiple_of (pos 1) (half_space_of (pos 0) (pos 0) (negsuc 0) (pos 10)) ∷ [])
unfolding gcd gcd_of reduced_point trace_at reduced_terms first_flat flat_of_one flat_of_two flat_of_three
box_flat = refl

-- its lower face does
box_lower : first_flat (pos 0) box10 ≡ None
unfolding gcd gcd_of reduced_point trace_at reduced_terms first_flat flat_of_one flat_of_two flat_of_three
box_lower = refl

-- a tetrahedron
abbrev tetrahedron : List HalfSpace
tetrahedron = half_space_of (pos 1) (pos 0) (pos 0) (pos 0) ∷ half_space_of (pos 0) (pos 1) (pos 0) (pos 0) ∷ half_space_of (pos 0) (pos 0) (pos 1) (pos 0)
    ∷ half_space_of (negsuc 1) (negsuc 2) (negsuc 4) (pos 7) ∷ []

-- its ring at height 1
tetrahedron_ring : is_ring (pos 1) tetrahedron (step (pos 1) (pos 0) (pos 0) (pos 0) (pos 0) (pos 1) (pos 1) ∷ step (pos 0) (pos 1) (pos 0) (pos 1) (pos 0) (pos 1) (pos 1)
    ∷ step (negsuc 1) (negsuc 2) (pos 2) (pos 0) (pos 2) (pos 3) (pos 3) ∷ []) ≡ true
unfolding gcd gcd_of reduced_point trace_at
tetrahedron_ring = refl

-- at height 7/5 it would have one point; at height 2 it has none, by three terms
tetrahedron_flat : first_flat (pos 2) tetrahedron ≡ Some (multiple_of (pos 2) (half_space_of (pos 1) (pos 0) (pos 0) (pos 0)) ∷ multiple_of (pos 3) (half_space_of (pos 0) (pos 1) (pos 0) (pos 0)) ∷ multiple_of (pos 1) (half_space_of (negsuc 1) (negsuc 2) (negsuc 4) (pos 7)) ∷ [])
unfolding gcd gcd_of reduced_point trace_at reduced_terms first_flat flat_of_one flat_of_two flat_of_three
tetrahedron_flat = refl

-- the lower face of the domain cube belongs to it: the cell without half-spaces has a ring there
cube_ring : is_ring (neg_ℤ (pos 16777216)) [] (step (pos 1) (pos 0) (pos 16777216) (neg_ℤ (pos 16777216)) (neg_ℤ (pos 16777216)) (neg_ℤ (pos 16777216)) (pos 1)
    ∷ step (pos 0) (pos 1) (pos 16777216) (pos 16777216) (neg_ℤ (pos 16777216)) (neg_ℤ (pos 16777216)) (pos 1)
    ∷ step (negsuc 0) (pos 0) (pos 16777216) (pos 16777216) (pos 16777216) (neg_ℤ (pos 16777216)) (pos 1)
    ∷ step (pos 0) (negsuc 0) (pos 16777216) (neg_ℤ (pos 16777216)) (pos 16777216) (neg_ℤ (pos 16777216)) (pos 1) ∷ []) ≡ true
unfolding gcd gcd_of reduced_point trace_at
cube_ring = refl

-- a line through the corner of the box adds no edge of no length
corner_not_ring : is_ring (pos 5) (half_space_of (pos 1) (pos 1) (pos 0) (pos 0) ∷ box10) (step (pos 1) (pos 0) (pos 0) (pos 0) (pos 0) (pos 5) (pos 1) ∷ step (pos 1) (pos 1) (pos 0) (pos 0) (pos 0) (pos 5) (pos 1) ∷ step (pos 0) (pos 1) (pos 0) (pos 10) (pos 0) (pos 5) (pos 1)
    ∷ step (negsuc 0) (pos 0) (pos 10) (pos 10) (pos 10) (pos 5) (pos 1) ∷ step (pos 0) (negsuc 0) (pos 10) (pos 0) (pos 10) (pos 5) (pos 1) ∷ []) ≡ false
unfolding gcd gcd_of reduced_point trace_at
corner_not_ring = refl

-- the ring of the box is found
box_found : slice_of (pos 5) box10 ≡ ring ring10
unfolding gcd gcd_of reduced_point trace_at reduced_terms first_flat flat_of_one flat_of_two flat_of_three trace_meeting corners ring_of slice_of
box_found = refl

-- so is that of the tetrahedron
tetrahedron_found : slice_of (pos 1) tetrahedron ≡ ring (step (pos 1) (pos 0) (pos 0) (pos 0) (pos 0) (pos 1) (pos 1) ∷ step (pos 0) (pos 1) (pos 0) (pos 1) (pos 0) (pos 1) (pos 1)
    ∷ step (negsuc 1) (negsuc 2) (pos 2) (pos 0) (pos 2) (pos 3) (pos 3) ∷ [])
unfolding gcd gcd_of reduced_point trace_at reduced_terms first_flat flat_of_one flat_of_two flat_of_three trace_meeting corners ring_of slice_of
tetrahedron_found = refl

-- a line through the corner of the box, a side twice and a side further out leave its ring
corner_found : slice_of (pos 5) (half_space_of (pos 1) (pos 1) (pos 0) (pos 0) ∷ half_space_of (pos 2) (pos 0) (pos 0) (pos 0) ∷ half_space_of (negsuc 0) (pos 0) (pos 0) (pos 11) ∷ box10) ≡ ring ring10
unfolding gcd gcd_of reduced_point trace_at reduced_terms first_flat flat_of_one flat_of_two flat_of_three trace_meeting corners ring_of slice_of
corner_found = refl
