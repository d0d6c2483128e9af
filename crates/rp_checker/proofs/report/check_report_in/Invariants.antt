use Rattle.std.proofs.Common.{length}
use Rattle.rp_reports.specs.Output.{report_lines}
use Rattle.rp_command.specs.Versions.{version_of}
use Rattle.rp_checker.proofs.Whole.{IsGoing}
use Rattle.rp_checker.proofs.report.check_report_in.Given as goal

-- from here on the same is found as from the first line
abbrev pub invariant-loop-trail : goal.invariant-loop-trail
invariant-loop-trail l = IsGoing (report_lines l.report) (version_of l.version) l.last l.register l.trail

abbrev pub decreases-loop-trail : goal.decreases-loop-trail
decreases-loop-trail l = length l.trail.lines
