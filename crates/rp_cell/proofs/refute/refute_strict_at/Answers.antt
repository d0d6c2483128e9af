use Rattle.std.proofs.Common.{◌+◌, ◌++◌, true, List, take, sym, subst}
use Rattle.rp_geometry.specs.Geometry.{HalfSpace, RationalPoint}
use Rattle.rp_geometry.specs.laws.CellLaws.{IsSolution}
use Rattle.rp_convex.proofs.Inside.{member_moves_inside_spec}
use Rattle.rp_cell.proofs.SlimSoFar.{slice_is}
use Rattle.rp_cell.proofs.Refuted.{split_is, refuted_some, refuted, others_bounds}
use Rattle.rp_cell.proofs.refute.refute_strict_at.Goals as goal

pub first_outside_through-requires-clause-others : goal.first_outside_through-requires-clause-others
first_outside_through-requires-clause-others c =
    let cell = c.args.cell.now in
    let place = c.args.place in
    subst (λ (hs : List HalfSpace). (p : RationalPoint) × IsSolution true (take place cell ++ hs) p) (sym (slice_is cell (place + 1)))
    (member_moves_inside_spec _ (others_bounds cell place c.keep_bounds.ensures) (c.have_point_without.ensures.point c.if-not-have_point_without.false))

pub unwrap-requires : goal.unwrap-requires
unwrap-requires c =
    let below = c.have_point_without.ensures.place c.if-not-have_point_without.false in
    refuted_some c.args.cell.now _ c.first_outside_through.result (split_is c.args.cell.now c.args.place c.index-cell-place.result below c.index-cell-place.is) c.first_outside_through.ensures.none c.requires.empty

pub returns-clause-first : goal.returns-clause-first
returns-clause-first c =
    let below = c.have_point_without.ensures.place c.if-not-have_point_without.false in
    (refuted c.args.cell.now _ c.first_outside_through.result c.unwrap.result c.keep_bounds.ensures c.requires.empty (split_is c.args.cell.now c.args.place c.index-cell-place.result below c.index-cell-place.is)
    c.first_outside_through.ensures.first c.first_outside_through.ensures.passes c.unwrap.ensures).first

pub returns-clause-passes : goal.returns-clause-passes
returns-clause-passes c =
    let below = c.have_point_without.ensures.place c.if-not-have_point_without.false in
    (refuted c.args.cell.now _ c.first_outside_through.result c.unwrap.result c.keep_bounds.ensures c.requires.empty (split_is c.args.cell.now c.args.place c.index-cell-place.result below c.index-cell-place.is)
    c.first_outside_through.ensures.first c.first_outside_through.ensures.passes c.unwrap.ensures).passes

pub returns-clause-line : goal.returns-clause-line
returns-clause-line c =
    let below = c.have_point_without.ensures.place c.if-not-have_point_without.false in
    (refuted c.args.cell.now _ c.first_outside_through.result c.unwrap.result c.keep_bounds.ensures c.requires.empty (split_is c.args.cell.now c.args.place c.index-cell-place.result below c.index-cell-place.is)
    c.first_outside_through.ensures.first c.first_outside_through.ensures.passes c.unwrap.ensures).line
