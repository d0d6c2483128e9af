use Rattle.std.proofs.Common.{◌<◌, ◌≤◌, ◌++◌, List, length, subst}
use Rattle.std.proofs.lemmas.Result.{err_from_is_err_and}
use Rattle.rp_geometry.specs.sets.Shape.{Part}
use Rattle.rp_geometry.specs.parts.Parts.{most_parts}
use Rattle.rp_trail.proofs.Steps.{pair_stops, pair_passes, pair_limited}
use Rattle.rp_trail.proofs.join.join_pair.Goals as goal

pub returns-in_err-common : goal.returns-in_err-common
returns-in_err-common c =
    let p = err_from_is_err_and c.from_residual.result c.from_residual.ensures.1 in
    rw (p.1, p.2)
    (pair_stops c.args.form.now.items c.args.part.now c.args.other.now (c.cell.result.now ++ c.cell-2.result.now) c.args.trail.now c.made_of_both.new.trail c.in_err-common.field-0.0
    (λ i. c.cell.ensures.value i ++ c.cell-2.ensures.value i) c.in_err-common.ensures)

pub returns-then-items-gt-MAX_PARTS : goal.returns-then-items-gt-MAX_PARTS
returns-then-items-gt-MAX_PARTS c =
    pair_limited c.args.form.now.items c.put.new.form.items c.args.part.now c.args.other.now (c.cell.result.now ++ c.cell-2.result.now) c.args.trail.now c.made_of_both.new.trail c.in_ok-common.common
    (λ i. c.cell.ensures.value i ++ c.cell-2.ensures.value i) c.in_ok-common.ensures c.in_ok-put.ensures
    (subst (λ (parts : List Part). most_parts < length parts) c.items.ensures c.if-items-gt-MAX_PARTS.true)

pub returns : goal.returns
returns c =
    pair_passes c.args.form.now.items c.put.new.form.items c.args.part.now c.args.other.now (c.cell.result.now ++ c.cell-2.result.now) c.args.trail.now c.made_of_both.new.trail c.in_ok-common.common
    (λ i. c.cell.ensures.value i ++ c.cell-2.ensures.value i) c.in_ok-common.ensures c.in_ok-put.ensures
    (subst (λ (parts : List Part). length parts ≤ most_parts) c.items.ensures c.if-items-gt-MAX_PARTS.false)
