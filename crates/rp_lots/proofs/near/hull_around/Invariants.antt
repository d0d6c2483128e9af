use Rattle.std.proofs.Common.{◌≡◌, map, drop}
use Rattle.rp_space.specs.Boxes.{integer_box}
use Rattle.rp_proximity.specs.Hulls.{bounds_of, joined}
use Rattle.rp_lots.proofs.near.hull_around.Given as goal

-- the boxes of the parts still to come are left
abbrev pub invariant-loop-part : goal.invariant-loop-part
invariant-loop-part g l =
    let seen = g.T.Oracle.seen in
    joined (integer_box l.hull) (bounds_of (map seen (drop l.part-index l.parts))) ≡ joined (seen l.first).bounds (bounds_of (map seen l.parts))
