use Rattle.std.proofs.Common.{◌≡◌, ◌++◌, take}
use Rattle.rp_cell.proofs.held.Held.extend.Given as goal

-- the half-spaces so far stand behind those of before
abbrev pub invariant-loop-half : goal.invariant-loop-half
invariant-loop-half l = l.self ≡ l.fn.self ++ take l.half-index l.more
