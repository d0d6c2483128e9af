use Rattle.std.proofs.Common.{ℕ, sym, ap, ◌∙◌, arith}
use mir.Syntax.{w64}
use Rattle.rp_algebra.specs.Integer.{gcd}
use Rattle.rp_algebra.proofs.Divisors.{gcd-zero}
use Rattle.rp_space.proofs.BinaryDivisor.{gcd-one, part_less, part_more}
use Rattle.rp_space.proofs.divisor.short_divisor.Goals as goal

pub loop-low-preserved-then-part-high : goal.loop-low-preserved-then-part-high
loop-low-preserved-then-part-high c =
    part_less w64 c.loop-low.high c.loop-low.low c.loop-low.invariant.0 (omega (arith, c.loop-low-test.true)) c.loop-low.auto.low-fits.fits (omega (arith, c.if-part-high.true)) c.loop-low.invariant.1

pub loop-low-preserved : goal.loop-low-preserved
loop-low-preserved c =
    part_more w64 c.loop-low.high c.loop-low.low c.loop-low.invariant.0 (omega (arith, c.loop-low-test.true)) c.loop-low.auto.low-fits.fits (omega (arith, c.if-part-high.false)) c.loop-low.invariant.1

pub returns-else-high-ne1 : goal.returns-else-high-ne1
returns-else-high-ne1 c =
    c.if-high-ne1.false ∙ sym (ap (λ (n : ℕ). gcd n c.loop-low.low) c.if-high-ne1.false ∙ gcd-one c.loop-low.low) ∙ c.loop-low.invariant.1

pub returns-after-loop-low : goal.returns-after-loop-low
returns-after-loop-low c = sym (ap (gcd c.loop-low.high) c.loop-low-test.false ∙ gcd-zero c.loop-low.high) ∙ c.loop-low.invariant.1
