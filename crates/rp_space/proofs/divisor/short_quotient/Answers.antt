use Rattle.std.proofs.Common.{ap, sym, ◌∙◌, rules}
use Rattle.std.proofs.lemmas.Int.{to_z-of_z}
use mir.Syntax.{w64}
use Rattle.rp_algebra.specs.Integer.{reduced_by}
use Rattle.rp_algebra.proofs.Machine.{machine_quotient_fits, machine_quotient_is}
use Rattle.rp_space.proofs.BinaryDivisor.{reduced_by-one}
use Rattle.rp_space.proofs.divisor.short_quotient.Goals as goal

pub overflow_cast-result : goal.overflow_cast-result
overflow_cast-result c = search rules

pub nonzero_div-result : goal.nonzero_div-result
nonzero_div-result c = (c.requires.positive, machine_quotient_fits w64 c.args.divisor c.args.v c.ranges.v c.requires.positive c.requires.small)

pub returns : goal.returns
returns c = machine_quotient_is w64 c.args.divisor c.args.v c.ranges.v c.requires.positive c.requires.small

pub returns-then-divisor-eq1 : goal.returns-then-divisor-eq1
returns-then-divisor-eq1 c = to_z-of_z w64 c.args.v c.ranges.v ∙ reduced_by-one c.args.v ∙ ap (λ n. reduced_by n c.args.v) (sym c.if-divisor-eq1.true)
