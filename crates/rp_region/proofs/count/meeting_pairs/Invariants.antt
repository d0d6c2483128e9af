use Rattle.std.proofs.Common.{◌≡◌, ◌≤◌, ◌*◌, take, sum_by, count_by}
use Rattle.rp_geometry.specs.parts.Parts.{most_parts}
use Rattle.rp_region.proofs.count.meeting_pairs.Given as goal

-- the pairs of the parts looked at so far are counted
abbrev pub invariant-loop-part : goal.invariant-loop-part
invariant-loop-part g l = (l.count ≡ sum_by (λ p. count_by (λ q. g.W.Witness.may_meet p q) l.others) (take l.part-index l.parts)) × (l.count ≤ l.part-index * most_parts)
