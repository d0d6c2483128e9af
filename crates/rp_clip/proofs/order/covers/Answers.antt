use Rattle.std.proofs.Common.{arith}
use Rattle.std.proofs.lemmas.Bool.Decides.{nat_tests}
use Rattle.rp_clip.proofs.Filled.{stands}
use Rattle.rp_clip.proofs.Orders.{seen_none, seen_next, seen_all}
use Rattle.rp_clip.proofs.order.covers.Goals as goal

pub loop-place-init : goal.loop-place-init
loop-place-init c = seen_none c.args.order.now c.args.count

pub loop-place-preserved : goal.loop-place-preserved
loop-place-preserved c =
    seen_next c.args.order.now c.args.count c.loop-place.place-index c.loop-place.seen _ c.requires (stands c.args.order.now c.loop-place.place-index c.loop-place-test.true) c.if-place-count.false c.loop-place.invariant

pub returns : goal.returns
returns c = λ e. seen_all c.args.order.now c.args.count c.loop-place.place-index c.loop-place.seen c.requires c.loop-place-test.false (grind (arith, nat_tests)) c.loop-place.invariant
