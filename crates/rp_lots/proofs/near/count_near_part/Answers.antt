use Rattle.std.proofs.Common.{map, sym, ap, ◌∙◌}
use Rattle.rp_space.specs.Boxes.{integer_box}
use Rattle.rp_lots.specs.Boxes.{boxes_let}
use Rattle.rp_lots.proofs.Paired.{none_apart}
use Rattle.rp_lots.proofs.near.count_near_part.Goals as goal

pub returns-else-do_boxes_meet-clause-value : goal.returns-else-do_boxes_meet-clause-value
returns-else-do_boxes_meet-clause-value g c =
    let seen = g.T.Oracle.seen in
    let r = c.args.reach in
    let hull = integer_box c.args.hull.now in
    sym (none_apart r hull (map seen c.args.block.now) (seen c.args.other.now) c.requires.around (sym (c.do_boxes_meet.ensures ∙ ap (boxes_let r hull) c.bounds.ensures) ∙ c.if-do_boxes_meet.false))
