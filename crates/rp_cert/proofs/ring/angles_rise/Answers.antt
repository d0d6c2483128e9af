use Rattle.std.proofs.Common.{sym, ◌∙◌, arith}
use Rattle.rp_cert.proofs.Walks.{rising_last}
use Rattle.rp_cert.proofs.ring.angles_rise.Goals as goal

pub returns : goal.returns
returns c = sym (rising_last c.args.steps.now c.loop-i.i (omega (arith, c.loop-i-test.false))) ∙ c.loop-i.invariant
