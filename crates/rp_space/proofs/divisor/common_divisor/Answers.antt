use mir.Syntax.{w128}
use Rattle.rp_algebra.proofs.Divisors.{gcd_of-four_steps}
use Rattle.rp_algebra.proofs.Machine.{machine_size_is}
use Rattle.rp_space.proofs.divisor.common_divisor.Goals as goal

pub returns : goal.returns
returns c =
    gcd_of-four_steps c.args.a c.args.b c.args.c c.args.d
    (machine_size_is w128 c.args.a c.ranges.a c.unsigned_abs-4.ensures.value)
    (machine_size_is w128 c.args.b c.ranges.b c.unsigned_abs-3.ensures.value)
    (machine_size_is w128 c.args.c c.ranges.c c.unsigned_abs-2.ensures.value)
    (machine_size_is w128 c.args.d c.ranges.d c.unsigned_abs.ensures.value)
    c.greatest_common_divisor-last.ensures c.greatest_common_divisor-middle.ensures c.greatest_common_divisor.ensures
