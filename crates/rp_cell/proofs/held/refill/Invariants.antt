use Rattle.std.proofs.Common.{◌≡◌, ◌≤◌, take, length}
use Rattle.rp_cell.proofs.held.refill.Given as goal

-- the half-spaces so far
abbrev pub invariant-loop-half : goal.invariant-loop-half
invariant-loop-half l = record { so_far : l.list.items ≡ take l.half-index l.halves; few : length l.list.items ≤ l.half-index }
