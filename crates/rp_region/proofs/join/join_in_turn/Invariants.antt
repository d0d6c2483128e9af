use Rattle.std.proofs.Common.{drop}
use Rattle.rp_semantics.specs.Walk.{first_tester}
use Rattle.rp_semantics.specs.Form.{join_each}
use Rattle.rp_region.proofs.Left.{IsLeft}
use Rattle.rp_region.proofs.join.join_in_turn.Given as goal

-- the parts still to come are left
abbrev pub invariant-loop-part : goal.invariant-loop-part
invariant-loop-part l =
    IsLeft l.initial.work (join_each first_tester l.initial.made.items l.parts l.others)
    l.work (join_each first_tester l.made.items (drop l.part-index l.parts) l.others)
