use Rattle.std.proofs.Common.{◌&&◌, sym, subst}
use Rattle.rp_geometry.specs.Geometry.{RationalPoint, point_of}
use Rattle.rp_geometry.specs.parts.LeastBox.{IsInBox}
use Rattle.rp_lotindex.proofs.Floored.{are_read, are_in_range, spans_meet}
use Rattle.rp_lotindex.proofs.owner.unit_box.Goals as goal

pub floor-requires-clause-range : goal.floor-requires-clause-range
floor-requires-clause-range c =
    let n = c.numbers-x in
    (are_in_range (point_of n.result.0 n.result.1 n.result.2 n.result.3) c.args.p.now n.ensures.numbers n.ensures.small c.requires).x

pub floor-requires-2-clause-range : goal.floor-requires-2-clause-range
floor-requires-2-clause-range c =
    let n = c.numbers-x in
    (are_in_range (point_of n.result.0 n.result.1 n.result.2 n.result.3) c.args.p.now n.ensures.numbers n.ensures.small c.requires).y

pub floor-requires-3-clause-range : goal.floor-requires-3-clause-range
floor-requires-3-clause-range c =
    let n = c.numbers-x in
    (are_in_range (point_of n.result.0 n.result.1 n.result.2 n.result.3) c.args.p.now n.ensures.numbers n.ensures.small c.requires).z

pub returns : goal.returns
returns c b inside =
    let n = c.numbers-x in
    let p = point_of n.result.0 n.result.1 n.result.2 n.result.3 in
    let r = are_read p n.ensures.small in
    let h = subst (λ (q : RationalPoint). IsInBox b q) (sym n.ensures.numbers) inside in
    let w = n.ensures.small.positive in
    let x = spans_meet p.x p.w c.floor.result b.x1 b.x2 r.x r.w w c.floor.ensures.value c.floor.ensures.small h.x.0 h.x.1 in
    let y = spans_meet p.y p.w c.floor-2.result b.y1 b.y2 r.y r.w w c.floor-2.ensures.value c.floor-2.ensures.small h.y.0 h.y.1 in
    let z = spans_meet p.z p.w c.floor-3.result b.z1 b.z2 r.z r.w w c.floor-3.ensures.value c.floor-3.ensures.small h.z.0 h.z.1 in
    λ i. x.below i && x.above i && y.below i && y.above i && z.below i && z.above i
