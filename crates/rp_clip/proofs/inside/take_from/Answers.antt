use Rattle.std.proofs.Common.{rules, lt_of_le_of_lt}
use Rattle.std.proofs.lemmas.Nat.{and_le_l}
use Rattle.rp_clip.proofs.Taken.{row_below, places_below, taken_next, next_room, next_smaller, next_within}
use Rattle.rp_clip.proofs.inside.take_from.Goals as goal

pub point-requires : goal.point-requires
point-requires g c = (search rules, row_below c.args.planes.now c.loop-next.left c.args.table.now.points c.in-Some.next c.in-Some.ensures.some)

pub push-requires : goal.push-requires
push-requires g c =
    (search rules, next_room c.args.planes.now c.args.table.now c.loop-next.left c.in-Some.next c.loop-next.taken (c.requires.table c.loop-next.left c.loop-next.invariant.within) c.loop-next.invariant.taken c.in-Some.ensures.some)

pub places-left-requires : goal.places-left-requires
places-left-requires g c =
    (search rules, places_below c.args.planes.now c.args.table.now c.loop-next.left c.in-Some.next (c.requires.table c.loop-next.left c.loop-next.invariant.within) c.in-Some.ensures.some)

pub loop-next-smaller : goal.loop-next-smaller
loop-next-smaller g c =
    next_smaller c.args.planes.now c.args.table.now c.loop-next.left c.in-Some.next c.places-left.result (c.requires.table c.loop-next.left c.loop-next.invariant.within) c.loop-next.invariant.small c.in-Some.ensures.some c.places-left.ensures

pub loop-next-preserved : goal.loop-next-preserved
loop-next-preserved g c = record {
  taken = taken_next c.args.planes.now c.args.table.now c.loop-next.left c.in-Some.next c.places-left.result c.point.result c.loop-next.taken c.push.new.self (c.requires.table c.loop-next.left c.loop-next.invariant.within)
      c.loop-next.invariant.taken c.in-Some.ensures.some c.point.ensures c.places-left.ensures c.push.ensures;
  within = next_within c.args.planes.now c.loop-next.left c.args.set c.places-left.result (c.requires.table c.loop-next.left c.loop-next.invariant.within).few c.loop-next.invariant.small c.loop-next.invariant.within;
  small = lt_of_le_of_lt (and_le_l c.loop-next.left c.places-left.result) c.loop-next.invariant.small;
}
