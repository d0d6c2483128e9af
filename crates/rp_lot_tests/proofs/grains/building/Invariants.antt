use Rattle.std.proofs.Common.{◌+◌, ◌*◌}
use Rattle.rp_parcels.specs.Register.{IsLater}
use Rattle.rp_lot_tests.proofs.grains.building.Given as goal

-- the line of the next storey is above those of all storeys so far
abbrev pub invariant-loop-i : goal.invariant-loop-i
invariant-loop-i g l = IsLater (2 * l.i + 1) l.parcels
