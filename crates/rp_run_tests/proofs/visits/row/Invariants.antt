use Rattle.std.proofs.Common.{◌+◌}
use Rattle.rp_model.specs.states.State.{state_of_parts}
use Rattle.rp_model.specs.states.Sound.{IsLaterThan}
use Rattle.rp_run_tests.proofs.visits.row.Given as goal

-- the next line is above all births and ends
abbrev pub invariant-loop-i : goal.invariant-loop-i
invariant-loop-i g l = IsLaterThan (l.i + 1) (state_of_parts l.machine.state)
