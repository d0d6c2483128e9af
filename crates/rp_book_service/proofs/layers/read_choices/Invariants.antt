use Rattle.std.proofs.Common.{◌≡◌, ◌+◌, ◌≤◌, None, length}
use Rattle.rp_reports.specs.Report.{script_lines}
use Rattle.rp_book_service.specs.Layers.{choice_in}
use Rattle.rp_book_service.proofs.layers.read_choices.Given as goal

abbrev pub invariant-loop-line : goal.invariant-loop-line
invariant-loop-line l =
    record {
      choice : choice_in l.choice l.number (script_lines l.rest) ≡ choice_in None 1 (script_lines l.body);
      counted : l.number + length (script_lines l.rest) ≡ length (script_lines l.body) + 1;
      few : l.number + length l.rest ≤ length l.body + 1;
    }

abbrev pub decreases-loop-line : goal.decreases-loop-line
decreases-loop-line l = length l.rest
