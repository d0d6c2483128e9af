use Rattle.std.proofs.Common.{◌≡◌, ◌+◌, ◌%◌}
use Rattle.rp_algebra.specs.Integer.{gcd}
use Rattle.rp_space.proofs.divisor.long_divisor.Given as goal

abbrev pub invariant-loop-high : goal.invariant-loop-high
invariant-loop-high l = (l.high % 2 ≡ 1) × (gcd l.high l.low ≡ gcd l.fn.odd l.fn.other)

abbrev pub decreases-loop-high : goal.decreases-loop-high
decreases-loop-high l = l.high + l.low
