use Rattle.std.proofs.Common.{◌≡◌, ◌+◌, ◌≤◌, length}
use Rattle.rp_command.specs.Versions.{version_of}
use Rattle.rp_reports.specs.Report.{script_lines}
use Rattle.rp_book_service.specs.Layers.{first_registration}
use Rattle.rp_book_service.proofs.layers.first_registration.Given as goal

abbrev pub invariant-loop-line : goal.invariant-loop-line
invariant-loop-line l =
    record {
      same : first_registration (version_of l.version) l.number (script_lines l.rest) ≡ first_registration (version_of l.version) l.first (script_lines l.lines);
      few : l.number + length l.rest ≤ l.first + length l.lines;
    }

abbrev pub decreases-loop-line : goal.decreases-loop-line
decreases-loop-line l = length l.rest
