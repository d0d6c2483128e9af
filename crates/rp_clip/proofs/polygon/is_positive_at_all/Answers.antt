use Rattle.std.proofs.Common.{List, sym, subst, map, arith}
use Rattle.std.specs.List.{Contains}
use Rattle.std.proofs.lemmas.Int.{ints}
use Rattle.rp_algebra.proofs.Lists.{take_all}
use Rattle.rp_geometry.specs.Geometry.{RationalPoint, reduced_point}
use Rattle.rp_clip.proofs.HalfAt.{index_get}
use Rattle.rp_clip.proofs.Polygons.{positive_next}
use Rattle.rp_clip.proofs.polygon.is_positive_at_all.Goals as goal

pub loop-corner-preserved : goal.loop-corner-preserved
loop-corner-preserved c =
    positive_next c.args.h.now c.args.corners.now c.loop-corner.corner-index c.corner-item.result c.side.result
    (sym (index_get c.args.corners.now c.loop-corner.corner-index c.corner-item.result c.loop-corner-test.true (sym c.corner-item.is)))
    c.numbers.ensures.small.positive c.side.ensures (omega (arith, ints, c.if-side-le0.false)) c.loop-corner.invariant

pub returns : goal.returns
returns c = λ e v m.
    c.loop-corner.invariant v
    (subst (λ (ps : List RationalPoint). Contains (map reduced_point ps) v) (sym (take_all c.args.corners.now c.loop-corner.corner-index c.loop-corner-test.false)) m)
