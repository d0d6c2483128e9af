use Rattle.std.proofs.Common.{◌+◌, ◌≤◌, List, length, sym, ap, ◌∙◌, subst, arith}
use Rattle.std.specs.Prelude.{Some}
use Rattle.rp_geometry.specs.Geometry.{HalfSpace}
use Rattle.rp_geometry.specs.searches.Vertex.{first_inside}
use Rattle.rp_convex.proofs.Found.{inside_passes}
use Rattle.rp_clip.specs.Firsts.{AreOn}
use Rattle.rp_clip.specs.Taken.{HasFirsts, IsWithin}
use Rattle.rp_clip.proofs.Searched.{NoneBefore, polygon_firsts, none_before_next}
use Rattle.rp_clip.proofs.Taken.{taken_all}
use Rattle.rp_clip.proofs.search.inside_on_polygons.Goals as goal

pub take_from-left-requires : goal.take_from-left-requires
take_from-left-requires c =
    let none = subst (λ (hs : List HalfSpace). NoneBefore hs c.loop-place.place c.loop-place.left) c.of-planes.ensures c.loop-place.invariant.none in (
      omega arith,
      (
        subst (λ (hs : List HalfSpace). HasFirsts 16 hs c.loop-place.left c.fill_polygon.new.corners) (sym c.of-planes.ensures)
            (polygon_firsts c.args.cell.now c.fill_polygon.new.corners c.loop-place.place c.loop-place.left c.loop-place-test.true (c.fill_polygon.ensures.polygon c.if-not-fill_polygon.false)
            (c.fill_polygon.ensures.on c.if-not-fill_polygon.false) none),
        c.loop-place.invariant.taken,
      ),
    )

pub returns-then-left-eq0-clause-first : goal.returns-then-left-eq0-clause-first
returns-then-left-eq0-clause-first c =
    sym
    (taken_all c.of-planes.result c.take_from-left.result c.take_from-left.new.taken (subst (λ (hs : List HalfSpace). length hs ≤ 64) (sym c.of-planes.ensures) c.requires) c.take_from-left.ensures.taken c.if-left-eq0.true
    ∙ ap first_inside c.of-planes.ensures)

pub returns-then-left-eq0-clause-passes : goal.returns-then-left-eq0-clause-passes
returns-then-left-eq0-clause-passes c =
    inside_passes c.args.cell.now (Some c.take_from-left.new.taken) c.keep_bounds.ensures
    (taken_all c.of-planes.result c.take_from-left.result c.take_from-left.new.taken (subst (λ (hs : List HalfSpace). length hs ≤ 64) (sym c.of-planes.ensures) c.requires) c.take_from-left.ensures.taken c.if-left-eq0.true
    ∙ ap first_inside c.of-planes.ensures)

pub loop-place-preserved : goal.loop-place-preserved
loop-place-preserved c = record {
  taken = c.take_from-left.ensures.taken;
  none = subst (λ (hs : List HalfSpace). NoneBefore hs (c.loop-place.place + 1) c.take_from-left.result) (sym c.of-planes.ensures)
      (none_before_next c.args.cell.now c.fill_polygon.new.corners c.loop-place.place c.loop-place.left c.take_from-left.result (c.fill_polygon.ensures.polygon c.if-not-fill_polygon.false)
      (subst (λ (hs : List HalfSpace). IsWithin hs c.take_from-left.result c.loop-place.left) c.of-planes.ensures c.take_from-left.ensures.within)
      (subst (λ (hs : List HalfSpace). AreOn hs c.take_from-left.result c.fill_polygon.new.corners.points) c.of-planes.ensures c.take_from-left.ensures.none)
      (subst (λ (hs : List HalfSpace). NoneBefore hs c.loop-place.place c.loop-place.left) c.of-planes.ensures c.loop-place.invariant.none));
}
