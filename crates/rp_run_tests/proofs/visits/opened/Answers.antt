use Rattle.std.proofs.Common.{sym, subst}
use Rattle.rp_model.specs.states.State.{state_of_parts}
use Rattle.rp_model.specs.states.Sound.{IsLaterThan}
use Rattle.rp_reports.specs.Machine.{Running}
use Rattle.rp_run_tests.proofs.visits.opened.Goals as goal

pub returns : goal.returns
returns c = subst (λ (m : Running). IsLaterThan 1 (state_of_parts m.state)) (sym c.counting.ensures) (record { births = tt; ends = tt })
