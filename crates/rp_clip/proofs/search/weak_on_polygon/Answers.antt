use Rattle.std.proofs.Common.{◌-◌, ◌^◌, ◌≤◌, List, length, sym, ap, ◌∙◌, subst, arith, rules}
use Rattle.std.specs.Prelude.{Some}
use Rattle.rp_geometry.specs.Geometry.{HalfSpace}
use Rattle.rp_geometry.specs.searches.Vertex.{first_weak_point}
use Rattle.rp_convex.proofs.Found.{weak_passes}
use Rattle.rp_clip.specs.Firsts.{HasFirst}
use Rattle.rp_clip.proofs.Searched.{polygon_firsts, none_before_first}
use Rattle.rp_clip.proofs.Taken.{row_below, weak_point_is}
use Rattle.rp_clip.proofs.search.weak_on_polygon.Goals as goal

pub first_vertex-requires : goal.first_vertex-requires
first_vertex-requires c = (
  omega arith,
  subst (λ (hs : List HalfSpace). HasFirst 16 hs (2 ^ 128 - 1) c.fill_polygon.new.corners) (sym c.of-planes.ensures)
      (polygon_firsts c.args.cell.now c.fill_polygon.new.corners 0 (2 ^ 128 - 1) (search rules) (c.fill_polygon.ensures.polygon c.if-not-fill_polygon.false) (c.fill_polygon.ensures.on c.if-not-fill_polygon.false)
      (none_before_first c.args.cell.now (2 ^ 128 - 1)) (2 ^ 128 - 1) (λ p o. o)),
)

pub point-requires : goal.point-requires
point-requires c = (omega arith, row_below c.of-planes.result _ c.fill_polygon.new.corners.points c.in_ok-first.first c.in_ok-first.ensures.some)

pub returns-clause-first : goal.returns-clause-first
returns-clause-first c =
    sym
    (weak_point_is c.of-planes.result c.fill_polygon.new.corners.points c.in_ok-first.first c.point.result (subst (λ (hs : List HalfSpace). length hs ≤ 64) (sym c.of-planes.ensures) c.requires) c.in_ok-first.ensures.some c.point.ensures
    ∙ ap first_weak_point c.of-planes.ensures)

pub returns-clause-passes : goal.returns-clause-passes
returns-clause-passes c =
    weak_passes c.args.cell.now (Some c.point.result) c.keep_bounds.ensures
    (weak_point_is c.of-planes.result c.fill_polygon.new.corners.points c.in_ok-first.first c.point.result (subst (λ (hs : List HalfSpace). length hs ≤ 64) (sym c.of-planes.ensures) c.requires) c.in_ok-first.ensures.some c.point.ensures
    ∙ ap first_weak_point c.of-planes.ensures)
