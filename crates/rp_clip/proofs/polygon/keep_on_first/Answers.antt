use Rattle.std.proofs.Common.{◌+◌, [], ◌∷◌, ◌++◌, length, sym, ap, ◌∙◌, subst, arith}
use Rattle.rp_geometry.specs.Geometry.{reduced_point}
use Rattle.rp_clip.specs.Tables.{Rows}
use Rattle.rp_clip.specs.Polygons.{IsRenamed}
use Rattle.rp_clip.proofs.Moved.{as_long, mask_renamed}
use Rattle.rp_clip.proofs.Polygons.{IsKeptOn, row_read, keep_one, keep_not, kept_polygon}
use Rattle.rp_clip.proofs.Sides.{map_length}
use Rattle.rp_clip.proofs.polygon.keep_on_first.Goals as goal
use Rattle.rp_clip.proofs.polygon.keep_on_first.Goals.{then-sets-i-eq1, else-sets-i-eq1}

pub renamed-requires-clause-order : goal.renamed-requires-clause-order
renamed-requires-clause-order c = λ i d. let l = c.requires.covers.below i d in let f = c.requires.few in omega (arith, l, f)

pub renamed-requires-clause-few : goal.renamed-requires-clause-few
renamed-requires-clause-few c =
    let e = as_long c.args.cell.now c.args.order.now c.args.sorted.now c.requires.sorted in
    let f = c.requires.polygon.few in
    omega (arith, e, f)

pub loop-i-preserved : goal.loop-i-preserved
loop-i-preserved c =
    let r = row_read c.args.sorted.now c.args.from.now c.corners-corners.result.now c.planes-sets.result.now c.loop-i.i c.requires.polygon.table c.planes-sets.ensures.value c.corners-corners.ensures.points c.loop-i-test.true in
    elim c.if-sets-i-eq1.branch [
      | then-sets-i-eq1 w ↦
          subst (λ (t : Rows). IsKeptOn c.args.cell.now c.args.sorted.now c.args.from.now.points (c.loop-i.i + 1) t) (sym w.to-is)
          (keep_one c.args.cell.now c.args.sorted.now c.args.from.now.points c.loop-i.i c.loop-i.to w.push.new.self r.point _ w.renamed.result c.loop-i.invariant r.at r.mask w.if-sets-i-eq1.true
          (mask_renamed c.args.cell.now c.args.order.now c.args.sorted.now c.requires.few c.requires.polygon.few c.requires.sorted c.requires.covers r.point w.renamed.result
          (subst (λ n. IsRenamed c.args.order.now n w.renamed.result) r.mask w.renamed.ensures))
          (w.push.ensures.points ∙ ap (λ p. c.loop-i.to.points ++ p ∷ []) (r.reads w.index-corners-i.result w.index-corners-i.is)) w.push.ensures.planes)
      | else-sets-i-eq1 w ↦
          subst (λ (t : Rows). IsKeptOn c.args.cell.now c.args.sorted.now c.args.from.now.points (c.loop-i.i + 1) t) (sym w.to-is)
          (keep_not c.args.cell.now c.args.sorted.now c.args.from.now.points c.loop-i.i c.loop-i.to r.point _ c.loop-i.invariant r.at r.mask w.if-sets-i-eq1.false)
    ]

pub returns-clause-polygon : goal.returns-clause-polygon
returns-clause-polygon c =
    let same = ap length (sym c.corners-corners.ensures.points) ∙ map_length reduced_point c.corners-corners.result.now in
    let far = c.loop-i-test.false in
    let end = c.loop-i.auto.i-end in
    (kept_polygon c.args.cell.now c.args.order.now c.args.sorted.now c.args.place c.args.from.now c.loop-i.to c.loop-i.i
    (record { few = c.requires.few; covers = c.requires.covers; sorts = c.requires.sorted; first = c.requires.place }) c.requires.polygon c.loop-i.invariant
    (omega (arith, far, same)) (omega (arith, end, same))).0

pub returns-clause-on : goal.returns-clause-on
returns-clause-on c =
    let same = ap length (sym c.corners-corners.ensures.points) ∙ map_length reduced_point c.corners-corners.result.now in
    let far = c.loop-i-test.false in
    let end = c.loop-i.auto.i-end in
    (kept_polygon c.args.cell.now c.args.order.now c.args.sorted.now c.args.place c.args.from.now c.loop-i.to c.loop-i.i
    (record { few = c.requires.few; covers = c.requires.covers; sorts = c.requires.sorted; first = c.requires.place }) c.requires.polygon c.loop-i.invariant
    (omega (arith, far, same)) (omega (arith, end, same))).1
