use Rattle.std.proofs.Common.{◌≡◌, ◌+◌, ◌≤◌, length}
use Rattle.rp_reports.specs.Report.{script_lines}
use Rattle.rp_book.proofs.numbers.count_lines.Given as goal

abbrev pub invariant-loop-behind : goal.invariant-loop-behind
invariant-loop-behind l =
    record {
      counted : l.count + length (script_lines l.rest) ≡ length (script_lines l.text);
      few : l.count + length l.rest ≤ length l.text;
    }

abbrev pub decreases-loop-behind : goal.decreases-loop-behind
decreases-loop-behind l = length l.rest
