use Rattle.std.proofs.Common.{drop}
use Rattle.rp_semantics.specs.Form.{first_with_part}
use Rattle.rp_trail.specs.Pairs.{may_meet_by, test_by, chosen_pair}
use Rattle.rp_oracle.proofs.Left.{IsLeft}
use Rattle.rp_trail.proofs.pairs.first_with_part.Given as goal

-- the other parts still to come are left
abbrev pub invariant-loop-other : goal.invariant-loop-other
invariant-loop-other l =
    IsLeft l.initial.trail (first_with_part (chosen_pair l.near (may_meet_by l.meeting)) (test_by l.meeting) l.part l.others)
    l.trail (first_with_part (chosen_pair l.near (may_meet_by l.meeting)) (test_by l.meeting) l.part (drop l.other-index l.others))
