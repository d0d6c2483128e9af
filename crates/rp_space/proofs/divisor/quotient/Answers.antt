use Rattle.std.specs.Int.{trailing_zeros}
use Rattle.std.proofs.Common.{◌^◌, ap, sym, ◌∙◌, arith, rules}
use Rattle.std.proofs.lemmas.Int.{to_z-of_z}
use mir.Syntax.{w128}
use Rattle.rp_algebra.specs.Integer.{reduced_by}
use Rattle.rp_algebra.proofs.Machine.{machine_quotient_fits, machine_quotient_is}
use Rattle.rp_space.proofs.BinaryDivisor.{reduced_by-one, zeros_fit, is_power, power_few, power_some}
use Rattle.rp_space.proofs.divisor.quotient.Goals as goal

pub overflow_cast-result : goal.overflow_cast-result
overflow_cast-result c = search rules

pub nonzero_div-result : goal.nonzero_div-result
nonzero_div-result c = (c.requires.positive, machine_quotient_fits w128 c.args.divisor c.args.v c.ranges.v c.requires.positive c.requires.small)

pub returns : goal.returns
returns c = machine_quotient_is w128 c.args.divisor c.args.v c.ranges.v c.requires.positive c.requires.small

pub returns-then-divisor-eq1 : goal.returns-then-divisor-eq1
returns-then-divisor-eq1 c = to_z-of_z w128 c.args.v c.ranges.v ∙ reduced_by-one c.args.v ∙ ap (λ n. reduced_by n c.args.v) (sym c.if-divisor-eq1.true)

pub overflow_shr-divisor : goal.overflow_shr-divisor
overflow_shr-divisor c = zeros_fit c.args.divisor c.requires.positive c.requires.small

pub overflow_cast-twos : goal.overflow_cast-twos
overflow_cast-twos c = omega (arith, zeros_fit c.args.divisor c.requires.positive c.requires.small)

pub halved-requires-clause-some : goal.halved-requires-clause-some
halved-requires-clause-some c = power_some c.args.divisor c.requires.positive c.requires.small c.if-divisor-twos-eq1.true c.if-divisor-eq1.false

pub halved-requires-clause-few : goal.halved-requires-clause-few
halved-requires-clause-few c = power_few c.args.divisor c.requires.positive c.requires.small c.if-divisor-twos-eq1.true

pub returns-then-divisor-twos-eq1 : goal.returns-then-divisor-twos-eq1
returns-then-divisor-twos-eq1 c =
    to_z-of_z w128 c.halved.result (record { sfits = c.halved.type_inv }) ∙ c.halved.ensures ∙ ap (reduced_by (2 ^ trailing_zeros w128 c.args.divisor)) (to_z-of_z w128 c.args.v c.ranges.v) ∙ ap (λ n. reduced_by n c.args.v) (is_power c.args.divisor c.requires.positive c.requires.small c.if-divisor-twos-eq1.true)
