use Rattle.std.proofs.Common.{◌+◌}
use Rattle.rp_parcels.specs.Register.{IsLater}
use Rattle.rp_lot_tests.proofs.parcels.row.Given as goal

-- the line of the next box is above those of all boxes so far
abbrev pub invariant-loop-i : goal.invariant-loop-i
invariant-loop-i g l = IsLater (l.i + 1) l.parcels
