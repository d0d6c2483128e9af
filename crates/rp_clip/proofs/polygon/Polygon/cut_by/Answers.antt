use Rattle.std.proofs.Common.{◌*◌, ◌<◌, ◌≤◌, ℕ, List, length, Fits, w64, sym, arith, rules}
use Rattle.std.specs.Prelude.{slice_index_or}
use Rattle.rp_clip.specs.Polygons.{Covers}
use Rattle.rp_clip.proofs.Filled.{stands}
use Rattle.rp_clip.proofs.HalfAt.{index_get}
use Rattle.rp_clip.proofs.Lists.{get_contains}
use Rattle.rp_clip.proofs.Polygons.{sorted_first, sorted_next, sorted_all}
use Rattle.rp_clip.proofs.polygon.Polygon.cut_by.Goals as goal

-- what stands in the order is a place of the cell
in_bounds : (order : List ℕ) (count rank : ℕ) → Covers order count → rank < length order → slice_index_or order rank 0 < count
in_bounds order count rank c l = c.below _ (get_contains order rank _ (stands order rank l))

-- so that its offset fits
offset_fits : (n count : ℕ) → n < count → count ≤ 64 → Fits w64 (n * 32)
offset_fits n count l few = record { fits = omega (arith, l, few) }

pub bounds-cell-order : goal.bounds-cell-order
bounds-cell-order c = in_bounds c.args.order.now _ 0 c.requires.places (search rules)

pub offset_bounds-cell-order : goal.offset_bounds-cell-order
offset_bounds-cell-order c = offset_fits _ _ (in_bounds c.args.order.now _ 0 c.requires.places (search rules)) c.requires.few

pub loop-rank-init : goal.loop-rank-init
loop-rank-init c =
    sorted_first c.args.cell.now c.args.order.now _ c.index-cell-order.result c.begin.new.self.halves (stands c.args.order.now 0 (search rules))
    (sym (index_get c.args.cell.now _ c.index-cell-order.result (in_bounds c.args.order.now _ 0 c.requires.places (search rules)) (sym c.index-cell-order.is)))
    (c.begin.ensures c.if-not-begin.false)

pub bounds-cell-order-in-loop-rank : goal.bounds-cell-order-in-loop-rank
bounds-cell-order-in-loop-rank c = in_bounds c.args.order.now _ c.loop-rank.rank c.requires.places c.loop-rank-test.true

pub offset_bounds-cell-order-in-loop-rank : goal.offset_bounds-cell-order-in-loop-rank
offset_bounds-cell-order-in-loop-rank c = offset_fits _ _ (in_bounds c.args.order.now _ c.loop-rank.rank c.requires.places c.loop-rank-test.true) c.requires.few

pub loop-rank-preserved : goal.loop-rank-preserved
loop-rank-preserved c =
    sorted_next c.args.cell.now c.args.order.now c.loop-rank.rank _ c.index-cell-order-in-loop-rank.result c.loop-rank.self.halves c.add.new.self.halves (stands c.args.order.now c.loop-rank.rank c.loop-rank-test.true)
    (sym (index_get c.args.cell.now _ c.index-cell-order-in-loop-rank.result (in_bounds c.args.order.now _ c.loop-rank.rank c.requires.places c.loop-rank-test.true) (sym c.index-cell-order-in-loop-rank.is)))
    (c.add.ensures c.if-not-add.false) c.loop-rank.invariant

pub returns : goal.returns
returns c = λ e. sorted_all c.args.cell.now c.args.order.now c.loop-rank.rank c.loop-rank.self.halves c.loop-rank-test.false c.loop-rank.invariant
