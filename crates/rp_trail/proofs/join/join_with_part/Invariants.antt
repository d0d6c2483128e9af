use Rattle.std.proofs.Common.{drop}
use Rattle.rp_reports.specs.Check.{line_tester}
use Rattle.rp_semantics.specs.Form.{join_with_part}
use Rattle.rp_oracle.proofs.Left.{IsLeft}
use Rattle.rp_trail.proofs.join.join_with_part.Given as goal

-- the other parts still to come are left
abbrev pub invariant-loop-other : goal.invariant-loop-other
invariant-loop-other l =
    IsLeft l.initial.trail (join_with_part line_tester l.initial.form.items l.part l.others)
    l.trail (join_with_part line_tester l.form.items l.part (drop l.other-index l.others))
