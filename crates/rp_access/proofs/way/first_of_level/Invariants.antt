use Rattle.std.proofs.Common.{take}
use Rattle.rp_access.specs.Tests.{IsFirstAmong}
use Rattle.rp_access.proofs.way.first_of_level.Given as goal

abbrev pub invariant-loop-j : goal.invariant-loop-j
invariant-loop-j l = IsFirstAmong l.levels l.level (take l.j-index l.numbers) l.first
