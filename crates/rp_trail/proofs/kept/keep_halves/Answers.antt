use Rattle.rp_geometry.specs.Geometry.{IsKeptHalfSpace}
use Rattle.rp_trail.proofs.Followed.{all_more}
use Rattle.rp_trail.proofs.kept.keep_halves.Goals as goal

pub loop-half-preserved : goal.loop-half-preserved
loop-half-preserved c =
    all_more IsKeptHalfSpace c.args.halves.now c.loop-half.half-index c.half-item.result c.loop-half-test.true c.loop-half.invariant c.half-item.is c.numbers.ensures.kept
