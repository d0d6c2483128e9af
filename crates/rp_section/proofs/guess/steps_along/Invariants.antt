use Rattle.std.proofs.Common.{◌≤◌, length}
use Rattle.rp_section.proofs.guess.steps_along.Given as goal

-- at most a step for each side so far
abbrev pub invariant-loop-next : goal.invariant-loop-next
invariant-loop-next l = length l.steps ≤ l.next-index
