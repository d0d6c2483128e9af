use Rattle.std.proofs.Common.{◌+◌, drop, ap}
use Rattle.std.proofs.lemmas.Result.{err_from_is_err_and}
use Rattle.rp_algebra.proofs.Lists.{drop_item}
use Rattle.rp_semantics.specs.Walk.{first_tester}
use Rattle.rp_semantics.specs.Form.{join_with_part, join_each}
use Rattle.rp_region.proofs.Grows.{join_with_part_tells, join_each_tells}
use Rattle.rp_region.proofs.Left.{left_as, next_left, fault_left}
use Rattle.rp_region.proofs.join.join_in_turn.Goals as goal

pub returns-in_err-join_with_part : goal.returns-in_err-join_with_part
returns-in_err-join_with_part c =
    let p = err_from_is_err_and c.from_residual.result c.from_residual.ensures.1 in
    let others = c.args.others.now in
    let rest = drop (c.loop-part.part-index + 1) c.args.parts.now in
    rw (p.1, p.2)
    (fault_left (join_with_part first_tester c.loop-part.made.items c.part-item.result others) (λ longer. join_each first_tester longer rest others)
    (λ longer. join_each_tells longer rest others)
    (left_as (ap (λ ps. join_each first_tester c.loop-part.made.items ps others) (drop_item c.args.parts.now c.loop-part.part-index c.part-item.result c.loop-part-test.true c.part-item.is)) c.loop-part.invariant)
    c.in_err-join_with_part.field-0.0 c.join_with_part.new.work c.in_err-join_with_part.ensures)

pub loop-part-preserved : goal.loop-part-preserved
loop-part-preserved c =
    let others = c.args.others.now in
    let rest = drop (c.loop-part.part-index + 1) c.args.parts.now in
    next_left (join_with_part first_tester c.loop-part.made.items c.part-item.result others) (λ longer. join_each first_tester longer rest others)
    (join_with_part_tells c.loop-part.made.items c.part-item.result others)
    (left_as (ap (λ ps. join_each first_tester c.loop-part.made.items ps others) (drop_item c.args.parts.now c.loop-part.part-index c.part-item.result c.loop-part-test.true c.part-item.is)) c.loop-part.invariant)
    c.in_ok-join_with_part.ensures
