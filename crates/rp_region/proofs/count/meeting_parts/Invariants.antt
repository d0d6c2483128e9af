use Rattle.std.proofs.Common.{◌≡◌, ◌≤◌, take, count_by}
use Rattle.rp_region.proofs.count.meeting_parts.Given as goal

-- the parts looked at so far are counted
abbrev pub invariant-loop-other : goal.invariant-loop-other
invariant-loop-other g l = (l.count ≡ count_by (λ q. g.W.Witness.may_meet l.part q) (take l.other-index l.others)) × (l.count ≤ l.other-index)
