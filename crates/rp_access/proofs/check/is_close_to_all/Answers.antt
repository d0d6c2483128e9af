use Rattle.std.proofs.Common.{refl}
use Rattle.rp_access.proofs.Checked.{close_to_next, close_to_all}
use Rattle.rp_access.proofs.check.is_close_to_all.Goals as goal

pub loop-j-preserved : goal.loop-j-preserved
loop-j-preserved c = close_to_next c.args.levels.now c.args.own c.args.numbers.now c.loop-j.j-index c.loop-j-test.true (c.if-not-are_close.ensures.0 refl) c.loop-j.invariant

pub returns : goal.returns
returns c = close_to_all c.args.levels.now c.args.own c.args.numbers.now c.loop-j.j-index c.loop-j-test.false c.loop-j.invariant
