use Rattle.std.proofs.Common.{drop}
use Rattle.rp_semantics.specs.Form.{first_pair}
use Rattle.rp_trail.specs.Pairs.{may_meet_by, test_by, chosen_pair}
use Rattle.rp_oracle.proofs.Left.{IsLeft}
use Rattle.rp_trail.proofs.pairs.first_pair.Given as goal

-- the parts still to come are left
abbrev pub invariant-loop-part : goal.invariant-loop-part
invariant-loop-part l =
    IsLeft l.initial.trail (first_pair (chosen_pair l.near (may_meet_by l.meeting)) (test_by l.meeting) l.parts l.others)
    l.trail (first_pair (chosen_pair l.near (may_meet_by l.meeting)) (test_by l.meeting) (drop l.part-index l.parts) l.others)
