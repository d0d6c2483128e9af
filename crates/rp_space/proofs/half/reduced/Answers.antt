use Rattle.std.proofs.Common.{sym, ◌∙◌, subst, rules}
use Rattle.std.specs.Int.RustNames.{FitsSigned}
use mir.Syntax.{w64}
use Rattle.rp_geometry.specs.Geometry.{half_space_of, reduced_half_space, IsKeptHalfSpace}
use Rattle.rp_space.proofs.Kept.{read_quotient, read_divisor, kept_half_space}
use Rattle.rp_space.proofs.half.reduced.Goals as goal

pub returns : goal.returns
unfolding reduced_half_space
returns c =
    let g = c.divisor_of-divisor.result in
    let d = c.divisor_of-divisor.ensures.value ∙ read_divisor w64 c.args.a c.args.b c.args.c c.args.d c.ranges.a c.ranges.b c.ranges.c c.ranges.d in
    let fa : FitsSigned w64 c.short_quotient.result = search rules in
    let qa = read_quotient w64 c.short_quotient.result c.args.a g _ fa c.ranges.a c.short_quotient.ensures d in
    let fb : FitsSigned w64 c.short_quotient-2.result = search rules in
    let qb = read_quotient w64 c.short_quotient-2.result c.args.b g _ fb c.ranges.b c.short_quotient-2.ensures d in
    let fc : FitsSigned w64 c.short_quotient-3.result = search rules in
    let qc = read_quotient w64 c.short_quotient-3.result c.args.c g _ fc c.ranges.c c.short_quotient-3.ensures d in
    let fd : FitsSigned w64 c.short_quotient-4.result = search rules in
    let qd = read_quotient w64 c.short_quotient-4.result c.args.d g _ fd c.ranges.d c.short_quotient-4.ensures d in
    λ i. half_space_of (qa i) (qb i) (qc i) (qd i)

pub invariant_of-result : goal.invariant_of-result
invariant_of-result c = subst IsKeptHalfSpace (sym (returns c)) (kept_half_space (half_space_of c.args.a c.args.b c.args.c c.args.d) c.requires.bounds c.requires.nonzero)
