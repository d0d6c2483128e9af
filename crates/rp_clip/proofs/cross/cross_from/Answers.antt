use Rattle.std.proofs.Common.{rules}
use Rattle.rp_clip.proofs.Filled.{shared, from_next, from_all, stands}
use Rattle.rp_clip.proofs.Lists.{get_contains}
use Rattle.rp_clip.proofs.cross.cross_from.Goals as goal

pub cross-requires : goal.cross-requires
cross-requires g c =
    let at = stands c.args.below.now c.loop-low.low-index c.loop-low-test.true in
    (search rules, (shared c.args.planes.now c.args.h.now c.args.set _ c.requires.room c.requires.above (c.requires.below _ (get_contains c.args.below.now c.loop-low.low-index _ at)), c.loop-low.invariant.grown.table))

pub loop-low-preserved : goal.loop-low-preserved
loop-low-preserved g c =
    from_next c.args.planes.now c.args.h.now c.args.below.now c.args.set _ c.loop-low.low-index c.args.more.now c.loop-low.more c.cross.new.more c.cross.result
    (stands c.args.below.now c.loop-low.low-index c.loop-low-test.true) c.loop-low.invariant c.if-not-cross.false c.cross.ensures

pub returns : goal.returns
returns g c = from_all c.args.planes.now c.args.h.now c.args.below.now c.args.set c.loop-low.low-index c.args.more.now c.loop-low.more c.loop-low.invariant c.loop-low-test.false
