use Rattle.std.proofs.Common.{◌≡◌, ◌+◌}
use Rattle.rp_model.specs.states.State.{state_of_parts}
use Rattle.rp_model.specs.states.Sound.{IsLaterThan}
use Rattle.rp_run_tests.proofs.visits.lines_search_the_index_of_lots.Given as goal

-- the next number is above all births and ends
abbrev pub invariant-loop-line : goal.invariant-loop-line
invariant-loop-line g l = record { number : l.n ≡ 301 + l.line-index; later : IsLaterThan l.n (state_of_parts l.machine.state) }
