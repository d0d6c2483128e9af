use Rattle.std.proofs.Common.{◌≡◌, map, drop}
use Rattle.rp_space.specs.Boxes.{integer_box}
use Rattle.rp_proximity.specs.Hulls.{joined}
use Rattle.rp_store.proofs.hulls.joined.Given as goal

-- the boxes of the parts still to come are left
abbrev pub invariant-loop-part : goal.invariant-loop-part
invariant-loop-part g l =
    let seen = g.F.Forms.seen in
    joined (integer_box l.hull) (map (λ p. (seen p).bounds) (drop l.part-index l.rest)) ≡ joined (seen l.first).bounds (map (λ p. (seen p).bounds) l.rest)
