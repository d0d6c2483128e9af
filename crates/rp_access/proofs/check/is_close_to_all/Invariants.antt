use Rattle.std.proofs.Common.{take}
use Rattle.rp_access.specs.Tests.{IsCloseToAll}
use Rattle.rp_access.proofs.check.is_close_to_all.Given as goal

abbrev pub invariant-loop-j : goal.invariant-loop-j
invariant-loop-j l = IsCloseToAll l.levels l.own (take l.j-index l.numbers)
