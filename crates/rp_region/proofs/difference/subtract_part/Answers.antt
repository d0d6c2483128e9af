use Rattle.std.proofs.Common.{ap}
use Rattle.std.proofs.lemmas.Result.{err_from_is_err_and}
use Rattle.std.specs.Vec.Iter.{into_iter_items}
use Rattle.rp_semantics.specs.Walk.{first_tester}
use Rattle.rp_semantics.specs.Form.{subtract_pair, subtract_part}
use Rattle.rp_region.proofs.Grows.{subtract_pair_tells, subtract_part_tells}
use Rattle.rp_region.proofs.Left.{left_as, next_left, fault_left}
use Rattle.rp_region.proofs.difference.subtract_part.Goals as goal

pub loop-part-preserved : goal.loop-part-preserved
loop-part-preserved c =
    let other = c.args.other.now in
    let rest = into_iter_items c.next.new.self in
    next_left (subtract_pair first_tester c.loop-part.left.items c.in-Some.part other) (λ longer. subtract_part first_tester longer rest other)
    (subtract_pair_tells c.loop-part.left.items c.in-Some.part other)
    (left_as (ap (λ ps. subtract_part first_tester c.loop-part.left.items ps other) c.in-Some.ensures.steps.0) c.loop-part.invariant)
    c.in_ok-subtract_pair.ensures

pub returns-in_err-subtract_pair : goal.returns-in_err-subtract_pair
returns-in_err-subtract_pair c =
    let p = err_from_is_err_and c.from_residual.result c.from_residual.ensures.1 in
    let other = c.args.other.now in
    let rest = into_iter_items c.next.new.self in
    rw (p.1, p.2)
    (fault_left (subtract_pair first_tester c.loop-part.left.items c.in-Some.part other) (λ longer. subtract_part first_tester longer rest other)
    (λ longer. subtract_part_tells longer rest other)
    (left_as (ap (λ ps. subtract_part first_tester c.loop-part.left.items ps other) c.in-Some.ensures.steps.0) c.loop-part.invariant)
    c.in_err-subtract_pair.field-0.0 c.subtract_pair.new.work c.in_err-subtract_pair.ensures)
