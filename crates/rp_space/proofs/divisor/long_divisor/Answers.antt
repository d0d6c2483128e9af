use Rattle.std.proofs.Common.{sym, ap, ◌∙◌, arith}
use mir.Syntax.{w128}
use Rattle.rp_algebra.specs.Integer.{gcd}
use Rattle.rp_algebra.proofs.Divisors.{gcd-zero}
use Rattle.rp_space.proofs.BinaryDivisor.{part_less, part_more}
use Rattle.rp_space.proofs.divisor.long_divisor.Goals as goal

pub returns-then-low-eq0 : goal.returns-then-low-eq0
returns-then-low-eq0 c = sym (ap (gcd c.loop-high.high) c.if-low-eq0.true ∙ gcd-zero c.loop-high.high) ∙ c.loop-high.invariant.1

pub loop-high-preserved-then-part-high : goal.loop-high-preserved-then-part-high
loop-high-preserved-then-part-high c =
    part_less w128 c.loop-high.high c.loop-high.low c.loop-high.invariant.0 (omega (arith, c.if-low-eq0.false)) c.loop-high.auto.low-fits.fits (omega (arith, c.if-part-high.true)) c.loop-high.invariant.1

pub loop-high-preserved : goal.loop-high-preserved
loop-high-preserved c =
    part_more w128 c.loop-high.high c.loop-high.low c.loop-high.invariant.0 (omega (arith, c.if-low-eq0.false)) c.loop-high.auto.low-fits.fits (omega (arith, c.if-part-high.false)) c.loop-high.invariant.1
