use Rattle.rp_clip.proofs.Kept.{split_next, kept_all, below_all}
use Rattle.rp_clip.proofs.cross.split.Goals as goal

pub loop-i-preserved : goal.loop-i-preserved
loop-i-preserved g c =
    split_next c.args.planes.now c.args.h.now c.args.table.now c.loop-i.kept c.split_one.new.kept c.args.sides.now c.loop-i.i c.len.result c.index-corners-i.result c.corners-corners.result.now c.planes-sets.result.now
    c.loop-i.below.items c.split_one.new.below.items c.requires c.loop-i-test.true c.loop-i.invariant c.corners-corners.ensures.points c.index-corners-i.is c.planes-sets.ensures.value c.len.ensures.value
    c.split_one.ensures.points c.split_one.ensures.planes c.split_one.ensures.below

pub returns-clause-kept : goal.returns-clause-kept
returns-clause-kept g c = kept_all c.args.planes.now c.args.h.now c.args.table.now c.loop-i.kept c.args.sides.now c.loop-i.i c.requires c.loop-i.invariant.kept c.loop-i-test.false c.loop-i.auto.i-end

pub returns-clause-below : goal.returns-clause-below
returns-clause-below g c = below_all c.args.planes.now c.args.h.now c.args.table.now c.args.sides.now c.loop-i.i c.loop-i.below.items c.requires c.loop-i.invariant.below c.loop-i-test.false
