use Rattle.std.proofs.Common.{◌≡◌, ◌+◌, ◌≤◌, length, map}
use Rattle.rp_geometry.specs.parts.Parts.{most_parts}
use Rattle.rp_model.specs.commands.Parts.{count_pairs}
use Rattle.rp_proximity.specs.Near.{may_meet}
use Rattle.rp_lots.proofs.near.count_among.Given as goal

-- the pairs of the parts still to come are not counted yet
abbrev pub invariant-loop-rest : goal.invariant-loop-rest
invariant-loop-rest g l =
    let seen = g.T.Oracle.seen in
    record {
      counted : l.count + count_pairs (may_meet l.reach) (map seen l.rest) (map seen l.others) ≡ count_pairs (may_meet l.reach) (map seen l.parts) (map seen l.others);
      few : length l.rest ≤ most_parts;
    }

abbrev pub decreases-loop-rest : goal.decreases-loop-rest
decreases-loop-rest g l = length l.rest
