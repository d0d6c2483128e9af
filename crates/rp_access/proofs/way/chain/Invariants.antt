use Rattle.rp_access.proofs.Ways.{IsOnWay}
use Rattle.rp_access.proofs.way.chain.Given as goal

abbrev pub invariant-loop-left : goal.invariant-loop-left
invariant-loop-left l = IsOnWay l.g l.to l.levels.items l.from l.level l.route.items l.at l.left

abbrev pub decreases-loop-left : goal.decreases-loop-left
decreases-loop-left l = l.left
