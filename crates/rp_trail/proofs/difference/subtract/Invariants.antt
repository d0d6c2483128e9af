use Rattle.std.proofs.Common.{drop}
use Rattle.rp_reports.specs.Check.{line_tester}
use Rattle.rp_semantics.specs.Form.{subtract}
use Rattle.rp_oracle.proofs.Left.{IsLeft}
use Rattle.rp_trail.proofs.difference.subtract.Given as goal

-- the other parts still to come are left
abbrev pub invariant-loop-other : goal.invariant-loop-other
invariant-loop-other l =
    IsLeft l.initial.trail (subtract line_tester l.fn.parts.items l.others)
    l.trail (subtract line_tester l.current.items (drop l.other-index l.others))
