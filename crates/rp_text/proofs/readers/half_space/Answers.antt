use Rattle.std.proofs.Common.{ap, ◌∙◌, rules}
use Rattle.std.specs.Prelude.{option_map}
use Rattle.std.specs.Int.RustNames.{FitsSigned}
use mir.Syntax.{w128}
use Rattle.rp_text.specs.Readers.{written_half_space}
use Rattle.rp_text.proofs.WrittenLemmas.{half_of_long_words, half_read, half_missed}
use Rattle.rp_text.proofs.readers.half_space.Goals as goal

pub returns-in_err-half : goal.returns-in_err-half
returns-in_err-half c =
    let fits_a : FitsSigned w128 c.in_ok-a.a = search rules in
    let fits_b : FitsSigned w128 c.in_ok-a.b = search rules in
    let fits_c : FitsSigned w128 c.in_ok-a.c = search rules in
    let fits_d : FitsSigned w128 c.in_ok-a.d = search rules in
    ap (option_map _) c.from_residual-in_err-half.ensures
    ∙ half_missed c.args.line.now c.in_ok-a.line.now (c.in_ok-a.a, c.in_ok-a.b, c.in_ok-a.c, c.in_ok-a.d) c.in_ok-a.ensures
    (c.in_err-half.ensures ∙ ap written_half_space (half_of_long_words c.in_ok-a.a c.in_ok-a.b c.in_ok-a.c c.in_ok-a.d fits_a fits_b fits_c fits_d))

pub returns : goal.returns
returns c =
    let fits_a : FitsSigned w128 c.in_ok-a.a = search rules in
    let fits_b : FitsSigned w128 c.in_ok-a.b = search rules in
    let fits_c : FitsSigned w128 c.in_ok-a.c = search rules in
    let fits_d : FitsSigned w128 c.in_ok-a.d = search rules in
    half_read c.args.line.now c.in_ok-a.line.now (c.in_ok-a.a, c.in_ok-a.b, c.in_ok-a.c, c.in_ok-a.d) c.in_ok-half.half c.in_ok-a.ensures
    (c.in_ok-half.ensures ∙ ap written_half_space (half_of_long_words c.in_ok-a.a c.in_ok-a.b c.in_ok-a.c c.in_ok-a.d fits_a fits_b fits_c fits_d))
