use Rattle.std.proofs.Common.{ap, ◌∙◌}
use Rattle.rp_geometry.specs.Geometry.{half_space_of}
use Rattle.rp_space.specs.MadeHalfSpace.{made_half_space}
use Rattle.rp_text.proofs.WrittenLemmas.{half_of_words, half_compared, half_made, half_not_made}
use Rattle.rp_text.proofs.readers.short_half.Goals as goal

pub returns-in_default : goal.returns-in_default
returns-in_default c =
    let same = half_of_words c.args.a c.args.b c.args.c c.args.d c.ranges.a c.ranges.b c.ranges.c c.ranges.d in
    half_not_made (half_space_of c.args.a c.args.b c.args.c c.args.d) c.in_default.field-0 (c.in_default.ensures ∙ ap made_half_space same)

pub returns-then-eq : goal.returns-then-eq
returns-then-eq c =
    let n = c.numbers.result in
    let same = half_of_words c.args.a c.args.b c.args.c c.args.d c.ranges.a c.ranges.b c.ranges.c c.ranges.d in
    half_made (half_space_of c.args.a c.args.b c.args.c c.args.d) c.in-Ok.half _ (c.in-Ok.ensures ∙ ap made_half_space same)
    (half_compared c.in-Ok.half n.0 n.1 n.2 n.3 c.args.a c.args.b c.args.c c.args.d _ c.ranges.a c.ranges.b c.ranges.c c.ranges.d c.numbers.ensures.numbers c.if-eq.ensures)

pub returns-else-eq : goal.returns-else-eq
returns-else-eq c =
    let n = c.numbers.result in
    let same = half_of_words c.args.a c.args.b c.args.c c.args.d c.ranges.a c.ranges.b c.ranges.c c.ranges.d in
    half_made (half_space_of c.args.a c.args.b c.args.c c.args.d) c.in-Ok.half _ (c.in-Ok.ensures ∙ ap made_half_space same)
    (half_compared c.in-Ok.half n.0 n.1 n.2 n.3 c.args.a c.args.b c.args.c c.args.d _ c.ranges.a c.ranges.b c.ranges.c c.ranges.d c.numbers.ensures.numbers c.if-eq.ensures)
