use Rattle.std.proofs.Common.{◌<◌, List, length, sym, subst, arith}
use Rattle.rp_geometry.specs.Geometry.{HalfSpace}
use Rattle.rp_clip.specs.Tables.{IsTable}
use Rattle.rp_clip.proofs.Polygons.{empty_polygon, first_polygon}
use Rattle.rp_clip.proofs.polygon.Polygon.begin.Goals as goal

pub cross_over-requires : goal.cross_over-requires
cross_over-requires c = (
  omega arith,
  (
    omega arith,
    (
      subst (λ (hs : List HalfSpace). IsTable 16 hs c.self.inside.cube) (sym c.clear.ensures) c.self.invariant.0.table,
      subst (λ (hs : List HalfSpace). length hs < 64) (sym c.clear.ensures) (omega arith),
    ),
  ),
)

pub invariant_of-self : goal.invariant_of-self
invariant_of-self c = (c.self.invariant.0, empty_polygon c.clear.new.self c.clear-2.new.self c.clear.ensures c.clear-2.ensures)

pub keep_on_first-requires-clause-polygon : goal.keep_on_first-requires-clause-polygon
keep_on_first-requires-clause-polygon c =
    first_polygon c.clear.new.self c.push.new.self c.args.h c.self.inside.cube c.cross_over.new.more c.cross_over.result c.clear.ensures c.self.invariant.0 c.numbers.ensures.kept.numbers
    (record { kept = c.cross_over.ensures.kept; keeps = c.cross_over.ensures.keeps; crossed = c.cross_over.ensures.crossed }) c.if-not-cross_over.false c.push.ensures
