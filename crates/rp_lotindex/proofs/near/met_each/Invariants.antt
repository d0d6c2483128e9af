use Rattle.std.proofs.Common.{◌≡◌, ◌++◌, drop}
use Rattle.rp_lotindex.specs.Near.{places_met}
use Rattle.rp_lotindex.proofs.near.met_each.Given as goal

-- the boxes still to come are left
abbrev pub invariant-loop-number : goal.invariant-loop-number
invariant-loop-number g l =
    let met = places_met l.reach l.from l.index in
    l.places.items ++ met (drop l.number (g.B.Bounded.boxes l.boxes)) ≡ met (g.B.Bounded.boxes l.boxes)
