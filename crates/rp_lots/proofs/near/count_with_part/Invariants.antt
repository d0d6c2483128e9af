use Rattle.std.proofs.Common.{◌≡◌, ◌+◌, ◌≤◌, map, drop, count_by}
use Rattle.rp_proximity.specs.Near.{may_meet}
use Rattle.rp_lots.proofs.near.count_with_part.Given as goal

-- the parts still to come are not counted yet
abbrev pub invariant-loop-part : goal.invariant-loop-part
invariant-loop-part g l =
    let seen = g.T.Oracle.seen in
    (l.count + count_by (λ p. may_meet l.reach p (seen l.other)) (map seen (drop l.part-index l.parts)) ≡ count_by (λ p. may_meet l.reach p (seen l.other)) (map seen l.parts))
    × (l.count ≤ l.part-index)
