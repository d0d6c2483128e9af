use Rattle.std.proofs.Common.{◌≡◌, drop}
use Rattle.rp_semantics.specs.Walk.{first_tester}
use Rattle.rp_semantics.specs.Form.{join_with_part}
use Rattle.rp_region.proofs.Left.{IsLeft}
use Rattle.rp_region.proofs.join.join_with_part.Given as goal

-- the part is held, and the other parts still to come are left
abbrev pub invariant-loop-other : goal.invariant-loop-other
invariant-loop-other l =
    (l.front ≡ l.part.cell)
    × IsLeft l.initial.work (join_with_part first_tester l.initial.made.items l.part l.others)
    l.work (join_with_part first_tester l.made.items l.part (drop l.other-index l.others))
