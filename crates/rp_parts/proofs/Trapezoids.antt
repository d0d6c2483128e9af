-- The trapezoid of an edge has the points between its ends, from the least y to below the edge, between the heights.
use Rattle.std.proofs.Common.{◌≡◌, ℤ, pos, ◌*ℤ◌, ◌<ℤ◌, ◌≤◌, nat_abs, Bool, true, false, ◌&&◌, refl, ◌∙◌, arith}
use Rattle.std.specs.Prelude.{int_le, int_lt}
use Rattle.std.proofs.lemmas.Int.{ints}
use Rattle.rp_geometry.specs.Geometry.{RationalPoint, IntegerBox, holds, all_hold, is_within_bound, cube_bound, is_box_in_bounds}
use Rattle.rp_geometry.specs.sets.Prism.{Corner, Edge, left_end, right_end, spans, below_line, below_edge, Prism, is_between_heights, IsPrism}
use Rattle.rp_geometry.specs.parts.Trapezoid.{least_y, trapezoid}
use Rattle.rp_geometry.specs.laws.PrismLaws.{TrapezoidIsBetween, TrapezoidIsKept}
use Rattle.rp_geometry.specs.parts.Parts.{AreKeptHalfSpaces}
use Rattle.rp_geometry.proofs.Boxes.{lower_x, upper_x, lower_y, lower_z, upper_z, lower_of, upper_of}
use Rattle.rp_geometry.proofs.Kept.{kept_box}
use Rattle.rp_parts.proofs.Reduced.{reduced_holds}
use Rattle.rp_parts.proofs.Ends.{IsNearby, nearby, AreEnds, ends_of, line_not_zero, line_is_kept, least_is_near}

-- six tests, grouped in two ways
regrouped : (a b c d e f : Bool) → (a && (b && (c && (d && (e && (f && true)))))) ≡ ((((a && b) && c) && d) && (e && f))
regrouped true true true true true true = refl
regrouped true true true true true false = refl
regrouped true true true true false f = refl
regrouped true true true false e f = refl
regrouped true true false d e f = refl
regrouped true false c d e f = refl
regrouped false b c d e f = refl

-- the points of a trapezoid, where the edge has two x
pub trapezoid_points : (s : Prism) (e : Edge) → ((left_end e).x <ℤ (right_end e).x) → (p : RationalPoint)
    → all_hold (trapezoid s e) p ≡ (((spans e p.x p.w && int_le (least_y s.corners *ℤ p.w) p.y) && holds (below_edge e) p) && is_between_heights s p)
trapezoid_points s e h p =
    (λ i. lower_of (l.x *ℤ p.w) p.x (lower_x p.x p.y p.z p.w l.x) i && (upper_of p.x (r.x *ℤ p.w) (upper_x p.x p.y p.z p.w r.x) i
    && (lower_of (least *ℤ p.w) p.y (lower_y p.x p.y p.z p.w least) i && (reduced_holds (below_line l r) (line_not_zero l r h) p i
    && (lower_of (s.low *ℤ p.w) p.z (lower_z p.x p.y p.z p.w s.low) i && (upper_of p.z (s.high *ℤ p.w) (upper_z p.x p.y p.z p.w s.high) i && true))))))
    ∙ regrouped (int_le (l.x *ℤ p.w) p.x) (int_lt p.x (r.x *ℤ p.w)) (int_le (least *ℤ p.w) p.y) (holds (below_line l r) p) (int_le (s.low *ℤ p.w) p.z) (int_lt p.z (s.high *ℤ p.w))
  where
    l : Corner
    l = left_end e

    r : Corner
    r = right_end e

    least : ℤ
    least = least_y s.corners

-- the law
pub trapezoid_is_between_spec : TrapezoidIsBetween
trapezoid_is_between_spec s e k h p w = trapezoid_points s e (ends_of IsNearby e (nearby e.start h.start) (nearby e.end h.end) h.slanted).order p

-- the sides and the heights of a trapezoid, as a box
abbrev box_round : Prism → Edge → IntegerBox
box_round s e = record { x1 = (left_end e).x; y1 = least_y s.corners; z1 = s.low; x2 = (right_end e).x; y2 = pos 0; z2 = s.high }

-- a number within the bound of corners is within that of boxes
within : (v : ℤ) → nat_abs v ≤ 8388608 → is_within_bound cube_bound v ≡ true
within v h = grind (arith, ints)

-- six tests that pass
six_pass : (a b c d e f : Bool) → a ≡ true → b ≡ true → c ≡ true → d ≡ true → e ≡ true → f ≡ true → (((((a && b) && c) && d) && e) && f) ≡ true
six_pass a b c d e f ta tb tc td te tf = λ i. ((((ta i && tb i) && tc i) && td i) && te i) && tf i

-- the box is within its bounds
round_is_near : (s : Prism) (e : Edge) → IsPrism s → AreEnds IsNearby (left_end e) (right_end e) → is_box_in_bounds (box_round s e) ≡ true
round_is_near s e k n =
    six_pass (is_within_bound cube_bound (left_end e).x) (is_within_bound cube_bound (least_y s.corners)) (is_within_bound cube_bound s.low) (is_within_bound cube_bound (right_end e).x) (is_within_bound cube_bound (pos 0)) (is_within_bound cube_bound s.high)
    (within (left_end e).x n.left.x) (within (least_y s.corners) (least_is_near s.corners k.corners)) k.low (within (right_end e).x n.right.x) refl k.high

-- its half-spaces are kept
pub trapezoid_kept : (s : Prism) (e : Edge) → IsPrism s → AreEnds IsNearby (left_end e) (right_end e) → AreKeptHalfSpaces (trapezoid s e)
trapezoid_kept s e k n =
    let b = kept_box (box_round s e) (round_is_near s e k n) in
    (b.0, (b.1.0, (b.1.1.0, (line_is_kept (left_end e) (right_end e) n, (b.1.1.1.1.0, (b.1.1.1.1.1.0, tt))))))

-- the law
pub trapezoid_is_kept_spec : TrapezoidIsKept
trapezoid_is_kept_spec s e k h = trapezoid_kept s e k (ends_of IsNearby e (nearby e.start h.start) (nearby e.end h.end) h.slanted)
