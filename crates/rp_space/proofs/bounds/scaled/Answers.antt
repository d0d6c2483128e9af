use Rattle.rp_space.proofs.Between.{scaled_fits, scaled_is}
use Rattle.rp_space.proofs.bounds.scaled.Goals as goal

pub overflow_mul-result : goal.overflow_mul-result
overflow_mul-result c = scaled_fits c.args.units c.args.w c.ranges.units c.requires

pub returns : goal.returns
returns c = scaled_is c.args.units c.args.w c.ranges.units c.requires
