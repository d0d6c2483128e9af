use Rattle.std.proofs.Common.{◌-◌, true, List, length, take, sym, subst, append-nil}
use Rattle.rp_geometry.specs.Geometry.{HalfSpace, RationalPoint}
use Rattle.rp_geometry.specs.laws.CellLaws.{IsSolution}
use Rattle.rp_convex.proofs.Inside.{member_moves_inside_spec}
use Rattle.rp_cell.proofs.Refuted.{last_is, front_bounds, refuted_some, refuted}
use Rattle.rp_cell.proofs.refute.refute_last.Goals as goal

pub first_outside_through-requires-clause-others : goal.first_outside_through-requires-clause-others
first_outside_through-requires-clause-others c =
    let front = take (length c.args.cell.now - 1) c.args.cell.now in
    subst (λ (hs : List HalfSpace). (p : RationalPoint) × IsSolution true hs p) (sym (append-nil front)) (member_moves_inside_spec front (front_bounds c.args.cell.now (length c.args.cell.now - 1) c.keep_bounds.ensures) c.requires.others)

pub unwrap-requires : goal.unwrap-requires
unwrap-requires c = refuted_some c.args.cell.now _ c.first_outside_through.result (last_is c.args.cell.now c.index-cell-last.result c.requires.some c.index-cell-last.is) c.first_outside_through.ensures.none c.requires.empty

pub returns-clause-first : goal.returns-clause-first
returns-clause-first c =
    (refuted c.args.cell.now _ c.first_outside_through.result c.unwrap.result c.keep_bounds.ensures c.requires.empty (last_is c.args.cell.now c.index-cell-last.result c.requires.some c.index-cell-last.is)
    c.first_outside_through.ensures.first c.first_outside_through.ensures.passes c.unwrap.ensures).first

pub returns-clause-passes : goal.returns-clause-passes
returns-clause-passes c =
    (refuted c.args.cell.now _ c.first_outside_through.result c.unwrap.result c.keep_bounds.ensures c.requires.empty (last_is c.args.cell.now c.index-cell-last.result c.requires.some c.index-cell-last.is)
    c.first_outside_through.ensures.first c.first_outside_through.ensures.passes c.unwrap.ensures).passes

pub returns-clause-line : goal.returns-clause-line
returns-clause-line c =
    (refuted c.args.cell.now _ c.first_outside_through.result c.unwrap.result c.keep_bounds.ensures c.requires.empty (last_is c.args.cell.now c.index-cell-last.result c.requires.some c.index-cell-last.is)
    c.first_outside_through.ensures.first c.first_outside_through.ensures.passes c.unwrap.ensures).line
