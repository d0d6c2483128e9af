use Rattle.std.proofs.Common.{◌*◌, ap, sym, ◌∙◌, arith}
use Rattle.rp_algebra.specs.Integer.{gcd}
use Rattle.rp_algebra.proofs.Divisors.{gcd-comm, gcd-zero, gcd-at_most_right}
use Rattle.rp_space.proofs.BinaryDivisor.{gcd-both_even}
use Rattle.rp_space.proofs.divisor.+greatest_common_divisor.Goals as goal

pub returns-then-b-eq1 : goal.returns-then-b-eq1
returns-then-b-eq1 t c = c.odd_divisor-then-b-eq1.ensures ∙ gcd-comm c.args.b c.args.a

pub returns-then-b-eq0 : goal.returns-then-b-eq0
returns-then-b-eq0 t c = sym (ap (gcd c.args.a) c.if-b-eq0.true ∙ gcd-zero c.args.a)

pub overflow_mul-result : goal.overflow_mul-result
overflow_mul-result t c =
    let whole = ap (λ n. 2 * n) c.greatest_common_divisor.ensures ∙ gcd-both_even c.args.a c.args.b c.if-a-eq1.false c.if-b-eq1.false in
    let most = gcd-at_most_right c.args.a c.args.b (omega (arith, c.if-b-eq0.false)) in
    omega (arith, whole, most, c.ranges.b.fits)

pub returns : goal.returns
returns t c = ap (λ n. 2 * n) c.greatest_common_divisor.ensures ∙ gcd-both_even c.args.a c.args.b c.if-a-eq1.false c.if-b-eq1.false
