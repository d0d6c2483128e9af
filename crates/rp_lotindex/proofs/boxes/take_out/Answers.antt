use Rattle.std.proofs.Common.{◌*◌, ◌+◌, arith}
use Rattle.rp_lotindex.proofs.Put.{taken_next, taken_out}
use Rattle.rp_lotindex.proofs.boxes.take_out.Goals as goal

pub loop-id-preserved : goal.loop-id-preserved
loop-id-preserved c = taken_next c.args.index.now c.loop-id.index c.remove.new.self (c.args.place * 16) c.loop-id.id c.loop-id.invariant c.loop-id.auto.id c.remove.ensures.gone

pub returns : goal.returns
returns c =
    let last = c.loop-id.auto.id-end in
    let behind = c.loop-id-test.false in
    taken_out c.args.index.now c.loop-id.index c.args.place c.loop-id.id c.loop-id.invariant (omega (arith, last, behind))
