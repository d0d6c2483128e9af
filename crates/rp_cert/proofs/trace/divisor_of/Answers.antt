use Rattle.std.proofs.Common.{ℕ, ◌<◌, ◌^◌, sym, subst, ◌∙◌}
use mir.Syntax.{w64}
use Rattle.rp_algebra.specs.Integer.{gcd}
use Rattle.rp_algebra.proofs.Machine.{machine_size_is}
use Rattle.rp_cert.proofs.Traced.{three_numbers, divisor_above, divisor_small}
use Rattle.rp_cert.proofs.trace.divisor_of.Goals as goal

pub returns-clause-value : goal.returns-clause-value
returns-clause-value c =
    let a = machine_size_is w64 c.args.a c.ranges.a c.unsigned_abs-3.ensures.value in
    let b = machine_size_is w64 c.args.b c.ranges.b c.unsigned_abs-2.ensures.value in
    let d = machine_size_is w64 c.args.d c.ranges.d c.unsigned_abs.ensures.value in
    let last = c.greatest_common_divisor-last.ensures ∙ (λ i. gcd (d i) (b i)) in
    c.greatest_common_divisor.ensures ∙ (λ i. gcd (last i) (a i)) ∙ sym (three_numbers c.args.a c.args.b c.args.d)

pub returns-clause-positive : goal.returns-clause-positive
returns-clause-positive c = subst (λ (n : ℕ). 0 < n) (sym (returns-clause-value c)) (divisor_above c.args.a c.args.b c.args.d c.requires.nonzero)

pub returns-clause-small : goal.returns-clause-small
returns-clause-small c =
    subst (λ (n : ℕ). n < 2 ^ 127) (sym (returns-clause-value c)) (divisor_small c.args.a c.args.b c.args.d c.requires.a_small c.requires.b_small c.requires.nonzero)
