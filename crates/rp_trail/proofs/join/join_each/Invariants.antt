use Rattle.std.proofs.Common.{drop}
use Rattle.rp_reports.specs.Check.{line_tester}
use Rattle.rp_semantics.specs.Form.{join_each}
use Rattle.rp_oracle.proofs.Left.{IsLeft}
use Rattle.rp_trail.proofs.join.join_each.Given as goal

-- the parts still to come are left
abbrev pub invariant-loop-part : goal.invariant-loop-part
invariant-loop-part l =
    IsLeft l.initial.trail (join_each line_tester l.initial.form.items l.parts l.others)
    l.trail (join_each line_tester l.form.items (drop l.part-index l.parts) l.others)
