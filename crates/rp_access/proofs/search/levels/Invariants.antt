use Rattle.std.proofs.Common.{◌-◌, length}
use Rattle.rp_access.proofs.Searching.{GoesOn}
use Rattle.rp_access.proofs.search.levels.Given as goal

abbrev pub invariant-loop-next : goal.invariant-loop-next
invariant-loop-next l = GoesOn l.g l.to l.next l.search

abbrev pub decreases-loop-next : goal.decreases-loop-next
decreases-loop-next l = length l.search.levels - l.next
