use Rattle.std.proofs.Common.{take}
use Rattle.rp_geometry.specs.parts.Parts.{AreKeptHalfSpaces}
use Rattle.rp_trail.proofs.kept.keep_halves.Given as goal

abbrev pub invariant-loop-half : goal.invariant-loop-half
invariant-loop-half l = AreKeptHalfSpaces (take l.half-index l.halves)
