use Rattle.std.proofs.Common.{[]}
use Rattle.std.specs.Vec.Iter.{into_iter_items}
use Rattle.rp_reports.specs.Check.{line_tester}
use Rattle.rp_semantics.specs.Form.{subtract_part}
use Rattle.rp_oracle.proofs.Left.{IsLeft}
use Rattle.rp_trail.proofs.difference.subtract_part.Given as goal

-- the parts still to come are left
abbrev pub invariant-loop-part : goal.invariant-loop-part
invariant-loop-part l =
    IsLeft l.initial.trail (subtract_part line_tester [] l.fn.parts.items l.other)
    l.trail (subtract_part line_tester l.left.items (into_iter_items l.part-iterator) l.other)
