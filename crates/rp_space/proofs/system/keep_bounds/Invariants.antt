use Rattle.std.proofs.Common.{take}
use Rattle.rp_geometry.specs.laws.CellLaws.{AreHalfSpaces}
use Rattle.rp_space.proofs.system.keep_bounds.Given as goal

abbrev pub invariant-loop-half : goal.invariant-loop-half
invariant-loop-half l = AreHalfSpaces (take l.half-index l.halves)
