use Rattle.std.proofs.Common.{ap, ◌∙◌, rules}
use Rattle.std.specs.Int.RustNames.{FitsSigned}
use mir.Syntax.{w64}
use Rattle.rp_geometry.specs.Geometry.{half_space_of}
use Rattle.rp_text.specs.Readers.{written_half_space}
use Rattle.rp_text.proofs.WrittenLemmas.{half_of_words, too_great, first_within, second_within, third_within, fourth_within, kept_is}
use Rattle.rp_text.proofs.readers.written_half.Goals as goal

pub returns-in_err-short : goal.returns-in_err-short
returns-in_err-short c =
    let h = half_space_of c.args.a c.args.b c.args.c c.args.d in
    c.from_residual.ensures ∙ too_great h c.args.a c.ranges.a c.in_err-short.ensures (first_within h)

pub returns-in_err-short-2 : goal.returns-in_err-short-2
returns-in_err-short-2 c =
    let h = half_space_of c.args.a c.args.b c.args.c c.args.d in
    c.from_residual-in_err-short-2.ensures ∙ too_great h c.args.b c.ranges.b c.in_err-short-2.ensures (second_within h)

pub returns-in_err-short-3 : goal.returns-in_err-short-3
returns-in_err-short-3 c =
    let h = half_space_of c.args.a c.args.b c.args.c c.args.d in
    c.from_residual-in_err-short-3.ensures ∙ too_great h c.args.c c.ranges.c c.in_err-short-3.ensures (third_within h)

pub returns-in_err-short-4 : goal.returns-in_err-short-4
returns-in_err-short-4 c =
    let h = half_space_of c.args.a c.args.b c.args.c c.args.d in
    c.from_residual-in_err-short-4.ensures ∙ too_great h c.args.d c.ranges.d c.in_err-short-4.ensures (fourth_within h)

pub returns : goal.returns
returns c =
    let fits_a : FitsSigned w64 c.in_ok-short.field-0 = search rules in
    let fits_b : FitsSigned w64 c.in_ok-short-2.field-0 = search rules in
    let fits_c : FitsSigned w64 c.in_ok-short-3.field-0 = search rules in
    let fits_d : FitsSigned w64 c.in_ok-short-4.field-0 = search rules in
    let a = kept_is c.in_ok-short.field-0 c.args.a c.ranges.a c.in_ok-short.ensures in
    let b = kept_is c.in_ok-short-2.field-0 c.args.b c.ranges.b c.in_ok-short-2.ensures in
    let d = kept_is c.in_ok-short-4.field-0 c.args.d c.ranges.d c.in_ok-short-4.ensures in
    let k = kept_is c.in_ok-short-3.field-0 c.args.c c.ranges.c c.in_ok-short-3.ensures in
    c.short_half.ensures
    ∙ ap written_half_space (half_of_words _ _ _ _ fits_a fits_b fits_c fits_d ∙ (λ i. half_space_of (a i) (b i) (k i) (d i)))
