use Rattle.std.proofs.Common.{◌≡◌, take}
use Rattle.rp_clip.proofs.planes.Planes.of.Given as goal

-- the half-spaces so far
abbrev pub invariant-loop-half : goal.invariant-loop-half
invariant-loop-half l = l.planes ≡ take l.half-index l.cell
