use Rattle.std.proofs.Common.{◌≡◌, ◌++◌, map, take}
use Rattle.rp_elim.specs.HeldFast.{placed_at}
use Rattle.rp_elim.proofs.placed.extend.Given as goal

-- the half-spaces so far stand behind the first ones
abbrev pub invariant-loop-half : goal.invariant-loop-half
invariant-loop-half g l = l.others.items ≡ l.initial.others.items ++ map (placed_at l.before) (take l.half-index l.halves)
