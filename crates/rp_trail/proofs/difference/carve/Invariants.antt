use Rattle.std.proofs.Common.{[], take, drop}
use Rattle.rp_reports.specs.Check.{line_tester}
use Rattle.rp_semantics.specs.Form.{carve}
use Rattle.rp_oracle.proofs.Left.{IsLeft}
use Rattle.rp_trail.proofs.difference.carve.Given as goal

-- the half-spaces still to come are left, inside those before
abbrev pub invariant-loop-i : goal.invariant-loop-i
invariant-loop-i l =
    IsLeft l.initial.trail (carve line_tester l.initial.left.items l.cell [] l.halves)
    l.trail (carve line_tester l.left.items l.cell (take l.i l.halves) (drop l.i l.halves))
