-- What worked scripts rest on: members, searches, forms, by computation.
use Rattle.std.specs.Prelude.{◌≡◌, ℕ, true, false, ℤ, pos, negsuc, List, [], ◌∷◌, Some, None, refl}
use Rattle.rp_worked.proofs.Opened.{opened}
use Rattle.rp_geometry.specs.Geometry.{RationalPoint, HalfSpace, IntegerBox, half_space_of, point_of, box_half_spaces}
use Rattle.rp_geometry.specs.sets.Shape.{Shape, is_member, Part}
use Rattle.rp_geometry.specs.parts.PartTest.{slimmed, side_lines}
use Rattle.rp_geometry.specs.searches.ProofLine.{ProofLine, in_line, out_line, drop_line, box_line}
use Rattle.rp_semantics.specs.Walk.{Outcome, done, stopped, Work, no_work, first_tester}
use Rattle.rp_language.specs.Expression.{Expression, Meaning}
use Rattle.rp_semantics.specs.Form.{form}
use Rattle.std.specs.Prelude.{◌++◌}
use Rattle.rp_geometry.specs.searches.Certificate.{Multiple}
use Rattle.rp_geometry.specs.searches.Elimination.{multiple_of, first_outside}
use Rattle.rp_geometry.specs.searches.Vertex.{meeting_point, first_inside, first_weak_point}
use Rattle.rp_geometry.specs.parts.LeastBox.{least_box}

abbrev h : ℕ → ℕ → ℕ → ℕ → HalfSpace
h a b c d = half_space_of (pos a) (pos b) (pos c) (pos d)

abbrev p : ℕ → ℕ → ℕ → ℕ → RationalPoint
p x y z w = point_of (pos x) (pos y) (pos z) (pos w)

-- member half 1 0 0 0 0 5 5 1
plane_owned : is_member (Shape.half_space (h 1 0 0 0)) (p 0 5 5 1) ≡ true
plane_owned = refl

plane_left_out : is_member (Shape.half_space (half_space_of (negsuc 0) (pos 0) (pos 0) (pos 0))) (p 0 5 5 1) ≡ false
plane_left_out = refl

level_plane_left_out : is_member (Shape.half_space (half_space_of (pos 0) (negsuc 0) (pos 0) (pos 5))) (p 3 5 9 1) ≡ false
level_plane_left_out = refl

level_plane_owned : is_member (Shape.half_space (half_space_of (pos 0) (pos 1) (pos 0) (negsuc 4))) (p 3 5 9 1) ≡ true
level_plane_owned = refl

past_the_cube : is_member Shape.everything (p 2535301200456458802993406410751 0 0 1) ≡ false
past_the_cube = refl

greatest_weight : is_member Shape.everything (p 0 0 0 37778931862957161709567) ≡ true
greatest_weight = refl

greatest_numbers : is_member (Shape.half_space (h 16777216 16777216 16777216 844424930131968)) (p 0 0 0 1) ≡ true
greatest_numbers = refl

slanted : HalfSpace
slanted = half_space_of (negsuc 1) (negsuc 2) (negsuc 4) (pos 7)

planes_meet : meeting_point (h 1 0 0 0) (h 0 1 0 0) slanted ≡ Some (p 0 0 7 5)
unfolding opened slanted
planes_meet = refl

planes_on_one_line : meeting_point (h 1 0 0 0) (h 0 1 0 0) (h 1 1 0 0) ≡ None
unfolding opened
planes_on_one_line = refl

tetrahedron : List HalfSpace
tetrahedron = h 1 0 0 0 ∷ h 0 1 0 0 ∷ h 0 0 1 0 ∷ half_space_of (negsuc 1) (negsuc 2) (negsuc 4) (pos 7) ∷ []

tetrahedron_inside : first_inside tetrahedron ≡ Some (p 0 0 0 1 ∷ p 0 0 7 5 ∷ p 0 7 0 3 ∷ p 7 0 0 2 ∷ [])
unfolding opened tetrahedron
tetrahedron_inside = refl

tetrahedron_weak : first_weak_point tetrahedron ≡ Some (p 0 0 0 1)
unfolding opened tetrahedron
tetrahedron_weak = refl

tetrahedron_box : least_box tetrahedron ≡ record { x1 = pos 0; y1 = pos 0; z1 = pos 0; x2 = pos 4; y2 = pos 3; z2 = pos 2 }
unfolding opened tetrahedron
tetrahedron_box = refl

box10 : List HalfSpace
box10 = box_half_spaces (record { x1 = pos 0; y1 = pos 0; z1 = pos 0; x2 = pos 10; y2 = pos 10; z2 = pos 10 })

box_inside : first_inside box10 ≡ Some (p 0 0 0 1 ∷ p 0 0 10 1 ∷ p 0 10 0 1 ∷ p 10 0 0 1 ∷ [])
unfolding opened box10
box_inside = refl

flat : List HalfSpace
flat = box_half_spaces (record { x1 = pos 0; y1 = pos 0; z1 = pos 0; x2 = pos 0; y2 = pos 10; z2 = pos 10 })

times : ℕ → HalfSpace → Multiple
times n h = multiple_of (pos n) h

flat_outside : first_outside true flat ≡ Some (times 1 (h 1 0 0 0) ∷ times 1 (half_space_of (negsuc 0) (pos 0) (pos 0) (pos 0)) ∷ [])
unfolding opened flat times
flat_outside = refl

no_point_outside : first_outside true (half_space_of (pos 0) (pos 0) (pos 0) (negsuc 0) ∷ []) ≡ Some (times 1 (half_space_of (pos 0) (pos 0) (pos 0) (negsuc 0)) ∷ [])
unfolding opened times
no_point_outside = refl

tetrahedron_side : first_outside true (tetrahedron ++ half_space_of (pos 1) (pos 0) (pos 0) (negsuc 3) ∷ []) ≡ Some (times 3 (h 0 1 0 0) ∷ times 5 (h 0 0 1 0) ∷ times 1 slanted ∷ times 2 (half_space_of (pos 1) (pos 0) (pos 0) (negsuc 3)) ∷ [])
unfolding opened times tetrahedron slanted
tetrahedron_side = refl

box4 : IntegerBox
box4 = record { x1 = pos 0; y1 = pos 0; z1 = pos 0; x2 = pos 4; y2 = pos 10; z2 = pos 10 }

box_10 : IntegerBox
box_10 = record { x1 = pos 0; y1 = pos 0; z1 = pos 0; x2 = pos 10; y2 = pos 10; z2 = pos 10 }

no_names : Meaning (List Part)
no_names = record { of_name = λ _. None; of_lot = λ _. None }

parts_in : Outcome Work (List Part) → List Part
parts_in (done ps w) = ps
parts_in (stopped s w) = []

proofs_in : Outcome Work (List Part) → List ProofLine
proofs_in (done ps w) = w.proofs
proofs_in (stopped s w) = []

minus_boxes : Outcome Work (List Part)
minus_boxes = form first_tester no_names (Expression.difference (Expression.box box_10) (Expression.box box4)) no_work

m1 : ℤ
m1 = negsuc 0

difference_parts : parts_in minus_boxes ≡ record { cell = half_space_of m1 (pos 0) (pos 0) (pos 10) ∷ h 0 1 0 0 ∷ half_space_of (pos 0) m1 (pos 0) (pos 10) ∷ h 0 0 1 0 ∷ half_space_of (pos 0) (pos 0) m1 (pos 10) ∷ half_space_of (pos 1) (pos 0) (pos 0) (negsuc 3) ∷ []; bounds = record { x1 = pos 4; y1 = pos 0; z1 = pos 0; x2 = pos 10; y2 = pos 10; z2 = pos 10 } } ∷ []
unfolding opened parts_in minus_boxes no_names box4 box_10 m1
difference_parts = refl

corners : ℕ → ℕ → List RationalPoint
corners a b = p a 0 0 1 ∷ p a 0 10 1 ∷ p a 10 0 1 ∷ p b 0 0 1 ∷ []

hx : HalfSpace
hx = half_space_of m1 (pos 0) (pos 0) (pos 0)

difference_lines : proofs_in minus_boxes ≡
    in_line (corners 0 10) ∷ box_line box_10 ∷ in_line (corners 0 4) ∷ box_line box4 ∷ in_line (corners 0 4)
    ∷ out_line (times 1 (h 1 0 0 0) ∷ times 1 hx ∷ [])
    ∷ in_line (p 10 0 0 1 ∷ p 10 0 10 1 ∷ p 10 10 0 1 ∷ p 4 0 0 1 ∷ [])
    ∷ drop_line (h 1 0 0 0) (times 1 (h 1 0 0 0) ∷ times 1 hx ∷ [])
    ∷ drop_line (h 1 0 0 0) (times 1 (half_space_of (pos 1) (pos 0) (pos 0) (negsuc 3)) ∷ times 1 hx ∷ [])
    ∷ box_line (record { x1 = pos 4; y1 = pos 0; z1 = pos 0; x2 = pos 10; y2 = pos 10; z2 = pos 10 })
    ∷ out_line (times 1 (h 0 1 0 0) ∷ times 1 (half_space_of (pos 0) m1 (pos 0) (pos 0)) ∷ [])
    ∷ out_line (times 1 (half_space_of (pos 0) m1 (pos 0) (pos 10)) ∷ times 1 (half_space_of (pos 0) (pos 1) (pos 0) (negsuc 9)) ∷ [])
    ∷ out_line (times 1 (h 0 0 1 0) ∷ times 1 (half_space_of (pos 0) (pos 0) m1 (pos 0)) ∷ [])
    ∷ out_line (times 1 (half_space_of (pos 0) (pos 0) m1 (pos 10)) ∷ times 1 (half_space_of (pos 0) (pos 0) (pos 1) (negsuc 9)) ∷ [])
    ∷ []
unfolding opened proofs_in minus_boxes no_names box4 box_10 m1 corners times hx
difference_lines = refl

-- slimming drops nothing from the tetrahedron, and three sides of its box have certificates
tetrahedron_slim : slimmed tetrahedron ≡ record { kept = tetrahedron; lines = [] }
unfolding opened tetrahedron
tetrahedron_slim = refl

tetrahedron_sides : side_lines tetrahedron (box_half_spaces (least_box tetrahedron)) ≡
    out_line (times 3 (h 0 1 0 0) ∷ times 5 (h 0 0 1 0) ∷ times 1 slanted ∷ times 2 (half_space_of (pos 1) (pos 0) (pos 0) (negsuc 3)) ∷ [])
    ∷ out_line (times 2 (h 1 0 0 0) ∷ times 5 (h 0 0 1 0) ∷ times 1 slanted ∷ times 3 (half_space_of (pos 0) (pos 1) (pos 0) (negsuc 2)) ∷ [])
    ∷ out_line (times 2 (h 1 0 0 0) ∷ times 3 (h 0 1 0 0) ∷ times 1 slanted ∷ times 5 (half_space_of (pos 0) (pos 0) (pos 1) (negsuc 1)) ∷ [])
    ∷ []
unfolding opened tetrahedron times slanted
tetrahedron_sides = refl
