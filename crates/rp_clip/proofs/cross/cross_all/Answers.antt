use Rattle.std.proofs.Common.{rules}
use Rattle.rp_clip.proofs.Filled.{owes_above, all_next, all_all}
use Rattle.rp_clip.proofs.cross.cross_all.Goals as goal

pub cross_above-requires : goal.cross_above-requires
cross_above-requires g c = (
  search rules,
  (
    c.requires.sides.room,
    (
      owes_above c.args.planes.now c.args.h.now c.args.table.now c.args.sides.now c.loop-i.i c.planes-sets.result.now c.requires.sides c.loop-i-test.true c.planes-sets.ensures.value,
      (c.requires.below.each, c.loop-i.invariant.grown.table),
    ),
  ),
)

pub loop-i-preserved : goal.loop-i-preserved
loop-i-preserved g c =
    all_next c.args.planes.now c.args.h.now c.args.table.now c.args.sides.now c.args.below.now c.loop-i.i c.planes-sets.result.now c.args.more.now c.loop-i.more c.cross_above.new.more c.cross_above.result
    c.requires.sides c.requires.below c.loop-i-test.true c.planes-sets.ensures.value c.loop-i.invariant c.if-not-cross_above.false c.cross_above.ensures

pub returns : goal.returns
returns g c = all_all c.args.planes.now c.args.h.now c.args.table.now c.args.sides.now c.loop-i.i c.args.more.now c.loop-i.more c.requires.sides c.loop-i.invariant c.loop-i-test.false
