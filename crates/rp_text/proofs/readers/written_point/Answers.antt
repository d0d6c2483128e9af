use Rattle.std.proofs.Common.{ap, ◌∙◌}
use Rattle.rp_geometry.specs.Geometry.{point_of}
use Rattle.rp_space.specs.MadePoint.{made_point}
use Rattle.rp_text.proofs.WrittenLemmas.{point_of_words, point_compared, point_made}
use Rattle.rp_text.proofs.readers.written_point.Goals as goal

pub returns-then-eq : goal.returns-then-eq
returns-then-eq c =
    let n = c.numbers.result in
    let same = point_of_words c.args.x c.args.y c.args.z c.args.w c.ranges.x c.ranges.y c.ranges.z c.ranges.w in
    point_made (point_of c.args.x c.args.y c.args.z c.args.w) c.in-Ok.point _ (c.in-Ok.ensures ∙ ap made_point same)
    (point_compared c.in-Ok.point n.0 n.1 n.2 n.3 c.args.x c.args.y c.args.z c.args.w _ c.ranges.x c.ranges.y c.ranges.z c.ranges.w c.numbers.ensures.numbers c.if-eq.ensures)

pub returns-else-eq : goal.returns-else-eq
returns-else-eq c =
    let n = c.numbers.result in
    let same = point_of_words c.args.x c.args.y c.args.z c.args.w c.ranges.x c.ranges.y c.ranges.z c.ranges.w in
    point_made (point_of c.args.x c.args.y c.args.z c.args.w) c.in-Ok.point _ (c.in-Ok.ensures ∙ ap made_point same)
    (point_compared c.in-Ok.point n.0 n.1 n.2 n.3 c.args.x c.args.y c.args.z c.args.w _ c.ranges.x c.ranges.y c.ranges.z c.ranges.w c.numbers.ensures.numbers c.if-eq.ensures)
