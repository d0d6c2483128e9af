use Rattle.std.proofs.Common.{◌+◌, length}
use Rattle.rp_model.specs.states.State.{state_of_parts}
use Rattle.rp_model.specs.states.Sound.{IsLaterThan}
use Rattle.rp_reports.specs.Made.{made_script}
use Rattle.rp_scripts.specs.Trial.{AreBounded}
use Rattle.rp_scripts.proofs.TrialLemmas.{HasCounted}
use Rattle.rp_runner.proofs.summary.count_script.Given as goal

abbrev pub invariant-loop-line : goal.invariant-loop-line
invariant-loop-line g l =
    record {
      bounded : AreBounded l.counts;
      later : IsLaterThan (l.counts.lines + 1) (state_of_parts l.machine.state);
      counted : HasCounted (made_script l.fn.building.storeys l.fn.building.seed) l.machine l.counts l.script;
    }

abbrev pub decreases-loop-line : goal.decreases-loop-line
decreases-loop-line g l = length l.script
