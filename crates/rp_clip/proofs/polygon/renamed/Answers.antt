use Rattle.std.proofs.Common.{arith}
use Rattle.rp_clip.proofs.Filled.{stands}
use Rattle.rp_clip.proofs.Lists.{get_contains}
use Rattle.rp_clip.proofs.Orders.{renaming_none, renaming_next, renaming_past}
use Rattle.rp_clip.proofs.polygon.renamed.Goals as goal

pub loop-next-init : goal.loop-next-init
loop-next-init c = renaming_none c.args.order.now c.args.set c.lowest_from-next.result c.ranges.set.fits (record { some = c.lowest_from-next.ensures.some; none = c.lowest_from-next.ensures.none })

pub returns-then-rank-order : goal.returns-then-rank-order
returns-then-rank-order c = renaming_past c.args.order.now c.args.set c.loop-next.places c.in-Some.rank c.loop-next.next c.in-Some.is c.if-rank-order.true c.loop-next.invariant

pub overflow_shl-places-in-Some : goal.overflow_shl-places-in-Some
overflow_shl-places-in-Some c = let l = c.requires.order _ (get_contains c.args.order.now c.in-Some.rank _ (stands c.args.order.now c.in-Some.rank c.if-rank-order.false)) in omega (arith, l)

pub loop-next-preserved : goal.loop-next-preserved
loop-next-preserved c =
    let at = stands c.args.order.now c.in-Some.rank c.if-rank-order.false in
    renaming_next c.args.order.now c.args.set c.loop-next.places c.in-Some.rank _ c.loop-next.next c.lowest_from-next-in-Some.result c.in-Some.is (c.requires.order _ (get_contains c.args.order.now c.in-Some.rank _ at)) at
    (record { some = c.lowest_from-next-in-Some.ensures.some; none = c.lowest_from-next-in-Some.ensures.none }) c.loop-next.invariant
