use Rattle.std.proofs.Common.{◌≡◌, take, map}
use Rattle.rp_geometry.specs.Geometry.{reduced_point}
use Rattle.rp_clip.proofs.table.Table.copy_from.Given as goal

-- the rows so far
abbrev pub invariant-loop-i : goal.invariant-loop-i
invariant-loop-i g l = record { points : l.self.points ≡ map reduced_point (take l.i l.corners); planes : l.self.planes ≡ take l.i l.planes }
