use Rattle.std.proofs.Common.{◌≡◌, ◌++◌, take}
use Rattle.rp_space.proofs.system.extend.Given as goal

-- the half-spaces so far stand behind the first ones
abbrev pub invariant-loop-half : goal.invariant-loop-half
invariant-loop-half l = l.system.items ≡ l.initial.system.items ++ take l.half-index l.halves
