use Rattle.std.proofs.Common.{◌≡◌, ◌+◌, ◌%◌}
use Rattle.rp_algebra.specs.Integer.{gcd}
use Rattle.rp_space.proofs.divisor.short_divisor.Given as goal

abbrev pub invariant-loop-low : goal.invariant-loop-low
invariant-loop-low l = (l.high % 2 ≡ 1) × (gcd l.high l.low ≡ gcd l.fn.odd l.fn.other)

abbrev pub decreases-loop-low : goal.decreases-loop-low
decreases-loop-low l = l.high + l.low
