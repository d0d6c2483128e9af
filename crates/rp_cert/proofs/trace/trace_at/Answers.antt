use Rattle.std.proofs.Common.{◌≡◌, ℤ, ◌^◌, [], ◌∷◌, Some, sym, ap, subst, ◌∙◌}
use mir.Syntax.{w32, w64}
use Rattle.rp_algebra.specs.Integer.{gcd_of, reduced_by}
use Rattle.rp_algebra.specs.Within.{IsWithin}
use Rattle.rp_algebra.proofs.Machine.{read_is}
use Rattle.rp_geometry.specs.Geometry.{HalfSpace}
use Rattle.rp_geometry.specs.sections.Trace.{Trace, trace_of, trace_at, offset_at}
use Rattle.rp_geometry.specs.laws.SectionLaws.{IsSmallTrace}
use Rattle.rp_slice.proofs.Small.{height_within, trace_is_small_spec}
use Rattle.rp_cert.proofs.Traced.{traced}
use Rattle.rp_cert.proofs.trace.trace_at.Goals as goal

-- three numbers in lowest terms
abbrev reduced_three : ℤ → ℤ → ℤ → Trace
reduced_three a b d = trace_of (reduced_by (gcd_of (a ∷ b ∷ d ∷ [])) a) (reduced_by (gcd_of (a ∷ b ∷ d ∷ [])) b) (reduced_by (gcd_of (a ∷ b ∷ d ∷ [])) d)

-- what is made of the numbers of the half-space is its trace
made : (c : goal.After-lowest) → c.lowest.result ≡ trace_at c.args.z c.args.half.now
unfolding trace_at
made c =
    let small = c.numbers-a.ensures.small in
    let wa : IsWithin (2 ^ 24) c.numbers-a.result.0 = record { abs_le = small.a } in
    let wb : IsWithin (2 ^ 24) c.numbers-a.result.1 = record { abs_le = small.b } in
    let z = read_is w32 (height_within c.args.z c.requires) tt in
    let a = read_is w64 wa tt ∙ ap (λ (h : HalfSpace). h.a) c.numbers-a.ensures.numbers in
    let b = read_is w64 wb tt ∙ ap (λ (h : HalfSpace). h.b) c.numbers-a.ensures.numbers in
    let d = read_is w64 c.offset_at.ensures.small tt ∙ c.offset_at.ensures.value ∙ ap (λ (v : ℤ). offset_at v c.args.half.now) z in
    c.lowest.ensures.value ∙ (λ i. reduced_three (a i) (b i) (d i))

pub returns-clause-value : goal.returns-clause-value
returns-clause-value c = ap Some (made c) ∙ sym (traced c.args.z c.args.half.now (sym c.has_trace.ensures ∙ c.if-not-has_trace.false))

pub returns-clause-small : goal.returns-clause-small
returns-clause-small c = subst IsSmallTrace (sym (made c)) (trace_is_small_spec c.args.z c.args.half.now c.requires c.numbers-a.ensures.kept.numbers)
