use Rattle.std.proofs.Common.{ℕ, ap, sym, ◌∙◌, arith}
use Rattle.rp_algebra.specs.Integer.{gcd}
use Rattle.rp_algebra.proofs.Divisors.{gcd-mod, gcd-comm}
use Rattle.rp_space.proofs.BinaryDivisor.{gcd-one}
use Rattle.rp_space.proofs.divisor.odd_divisor.Goals as goal

pub returns-then-odd-eq1 : goal.returns-then-odd-eq1
returns-then-odd-eq1 c = sym (ap (λ (n : ℕ). gcd n c.args.other) c.if-odd-eq1.true ∙ gcd-one c.args.other)

pub returns-then-odd-le-SHORT : goal.returns-then-odd-le-SHORT
returns-then-odd-le-SHORT c = c.short_divisor.ensures ∙ sym (gcd-mod c.args.other c.args.odd (omega (arith, c.requires))) ∙ gcd-comm c.args.other c.args.odd
