use Rattle.std.proofs.Common.{◌≤◌, ◌+◌, length}
use Rattle.rp_reports.specs.Output.{most_script_bytes}
use Rattle.rp_model.specs.states.State.{state_of_parts}
use Rattle.rp_model.specs.states.Sound.{IsLaterThan}
use Rattle.rp_scripts.proofs.RunLemmas.{HasTold}
use Rattle.rp_runner.proofs.run.put_report.Given as goal

abbrev pub invariant-loop-line : goal.invariant-loop-line
invariant-loop-line g l =
    record {
      counts : g.K.Sink.faults l.fn.sink ≤ g.K.Sink.faults l.sink;
      number : l.number + length l.rest ≤ most_script_bytes + 1;
      later : IsLaterThan l.number (state_of_parts l.machine.state);
      told : HasTold l.brief l.script (g.K.Sink.said l.fn.sink) (g.K.Sink.said l.sink) l.machine l.number l.rest l.refused;
    }

abbrev pub decreases-loop-line : goal.decreases-loop-line
decreases-loop-line g l = length l.rest
