-- Boxes round two cells meet where the cells have a common member, and with their boundaries where the cells are in contact.
use Rattle.std.proofs.Common.{◌≡◌, ℤ, pos, ◌*ℤ◌, ◌≤ℤ◌, ◌<ℤ◌, Bool, true, ◌&&◌, List, arith}
use Rattle.std.specs.Prelude.{int_le, int_lt}
use Rattle.std.proofs.lemmas.Int.{ints}
use Rattle.rp_algebra.proofs.IntLaws.{linear, nonneg_of_pos_ℤ, le_of_mul_le_left_ℤ, lt_of_mul_lt_left_ℤ, mul_comm_ℤ}
use Rattle.rp_algebra.proofs.Tests.{at_most_true}
use Rattle.rp_geometry.specs.Geometry.{RationalPoint, HalfSpace, IntegerBox, IsPoint, boxes_meet, closed_boxes_meet, with_cube}
use Rattle.rp_geometry.specs.sets.Shape.{shape_of_cell}
use Rattle.rp_geometry.specs.sets.Sets.{IsNonempty}
use Rattle.rp_geometry.specs.parts.LeastBox.{IsInBox, BoxHoldsCell}
use Rattle.rp_geometry.specs.laws.CellLaws.{AreHalfSpaces}
use Rattle.rp_geometry.specs.laws.PartLaws.{BoxesOfOverlapMeet, BoxesOfContactMeet}
use Rattle.rp_convex.proofs.Move.{IsWeak}
use Rattle.rp_convex.proofs.Inside.{moves_from}
use Rattle.rp_convex.proofs.Held.{member_in_cell}
use Rattle.rp_parts.proofs.LeastBox.{IsInClosedBox, weak_in_box}
use Rattle.rp_parts.proofs.Pairs.{weak_of_near}

-- a bound from below is below a bound from above of one coordinate
below_other : (a b x w : ℤ) → pos 0 <ℤ w → (a *ℤ w) ≤ℤ x → x <ℤ (b *ℤ w) → int_lt a b ≡ true
below_other a b x w hw h k = below_true a b (lt_of_mul_lt_left_ℤ w a b (nonneg_of_pos_ℤ w hw) (omega (arith, linear, h, k, mul_comm_ℤ a w, mul_comm_ℤ b w)))
  where
    below_true : (a b : ℤ) → a <ℤ b → int_lt a b ≡ true
    below_true a b h = grind (arith, ints)

-- and at most it, where the coordinate may be the bound
at_most_other : (a b x w : ℤ) → pos 0 <ℤ w → (a *ℤ w) ≤ℤ x → x ≤ℤ (b *ℤ w) → int_le a b ≡ true
at_most_other a b x w hw h k = at_most_true a b (le_of_mul_le_left_ℤ w a b hw (omega (arith, linear, h, k, mul_comm_ℤ a w, mul_comm_ℤ b w)))

-- six tests that pass
six : (a b c d e f : Bool) → a ≡ true → b ≡ true → c ≡ true → d ≡ true → e ≡ true → f ≡ true → (a && b && c && d && e && f) ≡ true
six a b c d e f ea eb ec ed ee ef = rw (ea, eb, ec, ed, ee, ef)

-- two boxes with a common point meet
boxes_of_point : (b g : IntegerBox) (p : RationalPoint) → IsPoint p → IsInBox b p → IsInBox g p → boxes_meet b g ≡ true
boxes_of_point b g p w i j = six _ _ _ _ _ _
    (below_other b.x1 g.x2 p.x p.w w i.x.0 j.x.1) (below_other g.x1 b.x2 p.x p.w w j.x.0 i.x.1)
    (below_other b.y1 g.y2 p.y p.w w i.y.0 j.y.1) (below_other g.y1 b.y2 p.y p.w w j.y.0 i.y.1)
    (below_other b.z1 g.z2 p.z p.w w i.z.0 j.z.1) (below_other g.z1 b.z2 p.z p.w w j.z.0 i.z.1)

-- and so do two boxes with their boundaries
closed_boxes_of_point : (b g : IntegerBox) (p : RationalPoint) → IsPoint p → IsInClosedBox b p → IsInClosedBox g p → closed_boxes_meet b g ≡ true
closed_boxes_of_point b g p w i j = six _ _ _ _ _ _
    (at_most_other b.x1 g.x2 p.x p.w w i.x.0 j.x.1) (at_most_other g.x1 b.x2 p.x p.w w j.x.0 i.x.1)
    (at_most_other b.y1 g.y2 p.y p.w w i.y.0 j.y.1) (at_most_other g.y1 b.y2 p.y p.w w j.y.0 i.y.1)
    (at_most_other b.z1 g.z2 p.z p.w w i.z.0 j.z.1) (at_most_other g.z1 b.z2 p.z p.w w j.z.0 i.z.1)

-- the law
pub boxes_of_overlap_meet_spec : BoxesOfOverlapMeet
boxes_of_overlap_meet_spec c e b g hb hg (p, m, n) = boxes_of_point b g p m.0 (hb p (member_in_cell c p m)) (hg p (member_in_cell e p n))

-- a box that holds a cell holds its weak system with the boundary
closed_box_of_near : (c : List HalfSpace) (b : IntegerBox) (p : RationalPoint) → AreHalfSpaces c → IsNonempty (shape_of_cell c) → BoxHoldsCell b c → IsWeak (with_cube c) p → IsInClosedBox b p
closed_box_of_near c b p k (s, m) box weak = let i = moves_from c s k m in weak_in_box c b i.to p box i.point i.sides weak

-- the law
pub boxes_of_contact_meet_spec : BoxesOfContactMeet
boxes_of_contact_meet_spec c e b g kc ke nc ne hb hg (p, n, m) =
    let u = weak_of_near c kc nc p n in
    let v = weak_of_near e ke ne p m in
    closed_boxes_of_point b g p u.point (closed_box_of_near c b p kc nc hb u) (closed_box_of_near e g p ke ne hg v)
