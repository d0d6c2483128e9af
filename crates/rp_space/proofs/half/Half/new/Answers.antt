use Rattle.std.proofs.Common.{◌≡◌, true, false, sym, ◌∙◌, ap, Ok}
use mir.Syntax.{w64}
use Rattle.rp_geometry.specs.Geometry.{half_space_of, is_half_space_in_bounds, is_zero_half_space, reduced_half_space}
use Rattle.rp_space.proofs.Kept.{read_half_space}
use Rattle.rp_space.proofs.half.Half.new.Goals as goal

pub returns : goal.returns
returns c =
    let same = read_half_space w64 c.args.a c.args.b c.args.c c.args.d c.ranges.a c.ranges.b c.ranges.c c.ranges.d in
    let h = half_space_of c.args.a c.args.b c.args.c c.args.d in
    let inside : is_half_space_in_bounds h ≡ true = ap is_half_space_in_bounds (sym same) ∙ sym c.is_in_bounds.ensures ∙ c.if-not-is_in_bounds.false in
    let nonzero : is_zero_half_space h ≡ false = ap is_zero_half_space (sym same) ∙ sym c.are_zero.ensures ∙ c.if-are_zero.false in
    let value : c.reduced.result ≡ reduced_half_space h = c.reduced.ensures ∙ ap reduced_half_space same in
    rw (inside, nonzero) (ap Ok value)
