use Rattle.std.proofs.Common.{arith}
use Rattle.rp_command.proofs.Digits.{short-digit}
use Rattle.rp_command.proofs.number.short_value_of.Goals as goal

pub overflow_mul-value : goal.overflow_mul-value
overflow_mul-value c = let fits = short-digit c.loop-digit.value 0 c.loop-digit.digit-index c.loop-digit.invariant.small (omega (arith, c.loop-digit-test.true, c.requires)) (omega arith) in omega (arith, fits)

pub overflow_add-value : goal.overflow_add-value
overflow_add-value c =
    let fits = short-digit c.loop-digit.value c.from.result c.loop-digit.digit-index c.loop-digit.invariant.small (omega (arith, c.loop-digit-test.true, c.requires)) (omega (arith, c.from.ensures, c.saturating_sub.type_inv)) in
    omega (arith, fits)
