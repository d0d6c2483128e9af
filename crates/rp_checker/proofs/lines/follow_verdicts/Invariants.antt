use Rattle.std.proofs.Common.{map, drop}
use Rattle.rp_reports.specs.Check.{follow_lines}
use Rattle.rp_reports.specs.Text.{verdict_text}
use Rattle.rp_answer.specs.Views.{verdict_of}
use Rattle.rp_oracle.proofs.Left.{IsLeft}
use Rattle.rp_checker.proofs.lines.follow_verdicts.Given as goal

-- the lines of the verdicts still to come are left
abbrev pub invariant-loop-verdict : goal.invariant-loop-verdict
invariant-loop-verdict l =
    IsLeft l.initial.trail (follow_lines (map verdict_text (map verdict_of l.verdicts)))
    l.trail (follow_lines (map verdict_text (map verdict_of (drop l.verdict-index l.verdicts))))
