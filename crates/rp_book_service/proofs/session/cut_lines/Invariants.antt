use Rattle.std.proofs.Common.{◌≤◌, length, drop}
use Rattle.rp_book_service.specs.Session.{HasNoEnd}
use Rattle.rp_book_service.proofs.session.cut_lines.Given as goal

abbrev pub invariant-loop-end : goal.invariant-loop-end
invariant-loop-end l =
    record {
      within : l.end ≤ length l.text;
      unended : HasNoEnd (drop l.end l.text);
    }

abbrev pub decreases-loop-end : goal.decreases-loop-end
decreases-loop-end l = l.end
