use Rattle.std.proofs.Common.{drop}
use Rattle.rp_semantics.specs.Form.{first_with_part}
use Rattle.rp_region.specs.Pairs.{chosen_pair}
use Rattle.rp_region.proofs.Left.{IsLeft}
use Rattle.rp_region.proofs.pairs.first_with_part.Given as goal

-- the other parts still to come are left
abbrev pub invariant-loop-other : goal.invariant-loop-other
invariant-loop-other g l =
    IsLeft l.initial.work (first_with_part (chosen_pair l.near g.W.Witness.may_meet) g.W.Witness.test l.part l.others)
    l.work (first_with_part (chosen_pair l.near g.W.Witness.may_meet) g.W.Witness.test l.part (drop l.other-index l.others))
