-- Parts whose boxes do not meet have nothing in common.
use Rattle.std.proofs.Common.{◌≡◌, true, false, ◌++◌, sym, ◌∙◌}
use Rattle.rp_geometry.specs.Geometry.{RationalPoint, boxes_meet, closed_boxes_meet}
use Rattle.rp_geometry.specs.sets.Shape.{Part, shape_of_cell}
use Rattle.rp_geometry.specs.sets.Sets.{IsEmpty}
use Rattle.rp_geometry.specs.laws.CellLaws.{IsSolution}
use Rattle.rp_geometry.specs.parts.Parts.{IsPart}
use Rattle.rp_geometry.proofs.Kept.{part_is_checked}
use Rattle.rp_parts.proofs.Meeting.{boxes_of_overlap_meet_spec}
use Rattle.rp_parts.proofs.Pairs.{overlap_is_member}
use Rattle.rp_forms.proofs.Touch.{boxes_touch}

-- no member, where the boxes share no more than boundary
pub no_common_member : (p q : Part) → IsPart p → IsPart q → boxes_meet p.bounds q.bounds ≡ false → IsEmpty (shape_of_cell (p.cell ++ q.cell))
no_common_member p q kp kq e x m =
    let meet = boxes_of_overlap_meet_spec p.cell q.cell p.bounds q.bounds kp.box.holds_all kq.box.holds_all ((overlap_is_member p.cell q.cell).1 (x, m)) in
    let clash : true ≡ false = sym meet ∙ e in
    absurd (cc)

-- no point of the weak system, where the closed boxes share no point
pub no_common_point : (p q : Part) → IsPart p → IsPart q → closed_boxes_meet p.bounds q.bounds ≡ false → (x : RationalPoint) → ¬ IsSolution false (p.cell ++ q.cell) x
no_common_point p q kp kq e x s =
    let meet = boxes_touch p q (part_is_checked p kp) (part_is_checked q kq) (x, s) in
    let clash : true ≡ false = sym meet ∙ e in
    absurd (cc)
