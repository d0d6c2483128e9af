use Rattle.std.proofs.Common.{◌-◌, ◌<◌}
use Rattle.rp_seal.specs.Merkle.{IsPowerOfTwo}
use Rattle.rp_seal.proofs.hashing.split_point.Given as goal

abbrev pub invariant-loop-left_size : goal.invariant-loop-left_size
invariant-loop-left_size l = IsPowerOfTwo l.left_size × (0 < l.left_size) × (l.left_size < l.size)

abbrev pub decreases-loop-left_size : goal.decreases-loop-left_size
decreases-loop-left_size l = l.size - l.left_size
