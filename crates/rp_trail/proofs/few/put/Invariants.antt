use Rattle.std.proofs.Common.{◌≡◌, ◌++◌, take}
use Rattle.rp_trail.proofs.few.put.Given as goal

-- the half-spaces so far stand behind the first ones
abbrev pub invariant-loop-half : goal.invariant-loop-half
invariant-loop-half l = l.few.items ≡ l.initial.few.items ++ take l.half-index l.halves
