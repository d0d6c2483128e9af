use Rattle.std.proofs.Common.{drop}
use Rattle.rp_semantics.specs.Walk.{first_tester}
use Rattle.rp_semantics.specs.Form.{subtract}
use Rattle.rp_region.proofs.Left.{IsLeft}
use Rattle.rp_region.proofs.difference.subtract_each.Given as goal

-- the other parts still to come are left
abbrev pub invariant-loop-other : goal.invariant-loop-other
invariant-loop-other l =
    IsLeft l.initial.work (subtract first_tester l.fn.parts.items l.others)
    l.work (subtract first_tester l.current.items (drop l.other-index l.others))
