use Rattle.std.proofs.Common.{◌≡◌, ◌+◌, ◌≤◌, ◌*◌, map, drop}
use Rattle.rp_geometry.specs.parts.Parts.{most_parts}
use Rattle.rp_model.specs.commands.Parts.{count_pairs}
use Rattle.rp_proximity.specs.Near.{may_meet}
use Rattle.rp_lots.proofs.near.count_within.Given as goal

-- the pairs of the parts still to come are not counted yet
abbrev pub invariant-loop-other : goal.invariant-loop-other
invariant-loop-other g l =
    let seen = g.T.Oracle.seen in
    (l.count + count_pairs (λ q p. may_meet l.reach p q) (map seen (drop l.other-index l.others)) (map seen l.block) ≡ count_pairs (λ q p. may_meet l.reach p q) (map seen l.others) (map seen l.block))
    × (l.count ≤ l.other-index * most_parts)
