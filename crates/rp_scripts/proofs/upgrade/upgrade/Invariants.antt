use Rattle.std.proofs.Common.{◌≤◌, length}
use Rattle.rp_reports.specs.Output.{has_bad_line}
use Rattle.rp_reports.specs.Upgrade.{upgraded_script}
use Rattle.rp_command.specs.Versions.{version_of}
use Rattle.rp_scripts.proofs.BodyLemmas.{HasPutLines}
use Rattle.rp_scripts.proofs.SpellLemmas.{upgraded_at}
use Rattle.rp_scripts.proofs.upgrade.upgrade.Given as goal

abbrev pub invariant-loop-line : goal.invariant-loop-line
invariant-loop-line g l =
    record {
      counts : g.K.Sink.faults l.fn.sink ≤ g.K.Sink.faults l.sink;
      upgraded :
          HasPutLines (upgraded_at (version_of l.version)) (version_of l.version) (upgraded_script l.script) (has_bad_line l.script) (g.K.Sink.said l.fn.sink) (g.K.Sink.said l.sink) l.rest l.has_bad_line;
    }

abbrev pub decreases-loop-line : goal.decreases-loop-line
decreases-loop-line g l = length l.rest
