use Rattle.std.proofs.Common.{subst}
use Rattle.rp_geometry.specs.Geometry.{HalfSpace, IsHalfSpace}
use Rattle.rp_space.proofs.Bounded.{bounds_more}
use Rattle.rp_space.proofs.system.keep_bounds.Goals as goal

pub loop-half-preserved : goal.loop-half-preserved
loop-half-preserved c =
    bounds_more c.args.halves.now c.loop-half.half-index c.half-item.result c.loop-half-test.true c.loop-half.invariant c.half-item.is
    (subst (λ (h : HalfSpace). IsHalfSpace h) c.numbers.ensures.numbers c.numbers.ensures.small)
