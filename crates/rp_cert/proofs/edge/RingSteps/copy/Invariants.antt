use Rattle.std.proofs.Common.{◌≡◌, take}
use Rattle.rp_cert.proofs.edge.RingSteps.copy.Given as goal

abbrev pub invariant-loop-step : goal.invariant-loop-step
invariant-loop-step l = l.copy ≡ take l.step-index l.items
