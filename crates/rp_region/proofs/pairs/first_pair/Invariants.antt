use Rattle.std.proofs.Common.{drop}
use Rattle.rp_semantics.specs.Form.{first_pair}
use Rattle.rp_region.specs.Pairs.{chosen_pair}
use Rattle.rp_region.proofs.Left.{IsLeft}
use Rattle.rp_region.proofs.pairs.first_pair.Given as goal

-- the parts still to come are left
abbrev pub invariant-loop-part : goal.invariant-loop-part
invariant-loop-part g l =
    IsLeft l.initial.work (first_pair (chosen_pair l.near g.W.Witness.may_meet) g.W.Witness.test l.parts l.others)
    l.work (first_pair (chosen_pair l.near g.W.Witness.may_meet) g.W.Witness.test (drop l.part-index l.parts) l.others)
