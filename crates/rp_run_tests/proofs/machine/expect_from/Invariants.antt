use Rattle.std.proofs.Common.{◌≡◌, ◌+◌}
use Rattle.rp_model.specs.states.State.{state_of_parts}
use Rattle.rp_model.specs.states.Sound.{IsLaterThan}
use Rattle.rp_run_tests.proofs.machine.expect_from.Given as goal

-- the next number is above all births and ends
abbrev pub invariant-loop-line : goal.invariant-loop-line
invariant-loop-line g l = record { number : l.n ≡ l.first + l.line-index; later : IsLaterThan l.n (state_of_parts l.machine.state) }
