use Rattle.std.proofs.Common.{◌≡◌, take}
use Rattle.rp_clip.proofs.planes.Planes.copy_from.Given as goal

-- the half-spaces so far
abbrev pub invariant-loop-half : goal.invariant-loop-half
invariant-loop-half l = l.self ≡ take l.half-index l.halves
