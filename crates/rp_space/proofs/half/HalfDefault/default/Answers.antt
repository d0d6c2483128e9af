use Rattle.std.proofs.Common.{pos, lit≤}
use Rattle.rp_space.proofs.Sides.{kept_x}
use Rattle.rp_space.proofs.half.HalfDefault.default.Goals as goal

pub invariant_of-result : goal.invariant_of-result
invariant_of-result c = kept_x (pos 0) (lit≤ tt)
