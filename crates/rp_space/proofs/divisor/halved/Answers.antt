use Rattle.std.proofs.Common.{◌/◌, ◌^◌, arith}
use Rattle.std.proofs.lemmas.Int.{ints, to_z_pos}
use mir.Syntax.{w128}
use Rattle.rp_space.proofs.BinaryDivisor.{halves_small}
use Rattle.rp_space.proofs.divisor.halved.Goals as goal

pub overflow_cast-result : goal.overflow_cast-result
overflow_cast-result c =
    let small = halves_small c.unsigned_abs.result c.args.times c.requires.some c.unsigned_abs.type_inv in
    omega (arith, ints, small)

pub overflow_sub-result : goal.overflow_sub-result
overflow_sub-result c =
    let small = halves_small c.unsigned_abs.result c.args.times c.requires.some c.unsigned_abs.type_inv in
    rw (to_z_pos w128 (c.unsigned_abs.result / 2 ^ c.args.times) small) (omega (arith, ints, small))
