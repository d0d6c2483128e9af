use Rattle.std.proofs.Common.{◌≤◌, length}
use Rattle.rp_bench.proofs.cell.read_cell.Given as goal

-- the half-spaces so far are few
abbrev pub invariant-loop-i : goal.invariant-loop-i
invariant-loop-i g l = length l.cell.items ≤ 64
