use Rattle.std.proofs.Common.{◌+◌, drop, ap}
use Rattle.std.proofs.lemmas.Result.{err_from_is_err_and}
use Rattle.rp_algebra.proofs.Lists.{drop_item}
use Rattle.rp_reports.specs.Check.{line_tester}
use Rattle.rp_semantics.specs.Form.{join_with_part, join_each}
use Rattle.rp_oracle.proofs.Left.{left_as, next_left, stop_left}
use Rattle.rp_trail.proofs.join.join_each.Goals as goal

pub returns-in_err-join_with_part : goal.returns-in_err-join_with_part
returns-in_err-join_with_part c =
    let p = err_from_is_err_and c.from_residual.result c.from_residual.ensures.1 in
    let others = c.args.others.now in
    let rest = drop (c.loop-part.part-index + 1) c.args.parts.now in
    rw (p.1, p.2)
    (stop_left (join_with_part line_tester c.loop-part.form.items c.part-item.result others) (λ longer. join_each line_tester longer rest others)
    (left_as (ap (λ ps. join_each line_tester c.loop-part.form.items ps others) (drop_item c.args.parts.now c.loop-part.part-index c.part-item.result c.loop-part-test.true c.part-item.is)) c.loop-part.invariant)
    c.in_err-join_with_part.field-0.0 c.join_with_part.new.trail c.in_err-join_with_part.ensures)

pub loop-part-preserved : goal.loop-part-preserved
loop-part-preserved c =
    let others = c.args.others.now in
    let rest = drop (c.loop-part.part-index + 1) c.args.parts.now in
    next_left (join_with_part line_tester c.loop-part.form.items c.part-item.result others) (λ longer. join_each line_tester longer rest others)
    (left_as (ap (λ ps. join_each line_tester c.loop-part.form.items ps others) (drop_item c.args.parts.now c.loop-part.part-index c.part-item.result c.loop-part-test.true c.part-item.is)) c.loop-part.invariant)
    c.in_ok-join_with_part.ensures
