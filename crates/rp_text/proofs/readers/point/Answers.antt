use Rattle.std.proofs.Common.{ap, ◌∙◌, rules}
use Rattle.std.specs.Int.RustNames.{FitsSigned}
use mir.Syntax.{w128}
use Rattle.rp_text.specs.Readers.{written_point}
use Rattle.rp_text.proofs.WrittenLemmas.{point_of_words, point_read}
use Rattle.rp_text.proofs.readers.point.Goals as goal

pub returns : goal.returns
returns c =
    let fits_x : FitsSigned w128 c.in_ok-x.x = search rules in
    let fits_y : FitsSigned w128 c.in_ok-x.y = search rules in
    let fits_z : FitsSigned w128 c.in_ok-x.z = search rules in
    let fits_w : FitsSigned w128 c.in_ok-x.w = search rules in
    point_read c.args.line.now c.in_ok-x.line.now (c.in_ok-x.x, c.in_ok-x.y, c.in_ok-x.z, c.in_ok-x.w) c.in_ok-point.point c.in_ok-x.ensures
    (c.in_ok-point.ensures ∙ ap written_point (point_of_words c.in_ok-x.x c.in_ok-x.y c.in_ok-x.z c.in_ok-x.w fits_x fits_y fits_z fits_w))
