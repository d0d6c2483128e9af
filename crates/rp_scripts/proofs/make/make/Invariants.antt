use Rattle.std.proofs.Common.{◌≤◌, length}
use Rattle.rp_reports.specs.Made.{made_script}
use Rattle.rp_scripts.proofs.MadeLemmas.{HasMade}
use Rattle.rp_scripts.proofs.make.make.Given as goal

abbrev pub invariant-loop-line : goal.invariant-loop-line
invariant-loop-line g l =
    record {
      counts : g.K.Sink.faults l.fn.sink ≤ g.K.Sink.faults l.sink;
      made : HasMade (made_script l.fn.building.storeys l.fn.building.seed) (g.K.Sink.said l.fn.sink) (g.K.Sink.said l.sink) l.script;
    }

abbrev pub decreases-loop-line : goal.decreases-loop-line
decreases-loop-line g l = length l.script
