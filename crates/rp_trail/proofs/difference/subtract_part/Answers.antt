use Rattle.std.proofs.Common.{ap}
use Rattle.std.proofs.lemmas.Result.{err_from_is_err_and}
use Rattle.std.specs.Vec.Iter.{into_iter_items}
use Rattle.rp_reports.specs.Check.{line_tester}
use Rattle.rp_semantics.specs.Form.{subtract_pair, subtract_part}
use Rattle.rp_oracle.proofs.Left.{left_as, next_left, stop_left}
use Rattle.rp_trail.proofs.difference.subtract_part.Goals as goal

pub loop-part-preserved : goal.loop-part-preserved
loop-part-preserved c =
    let other = c.args.other.now in
    let rest = into_iter_items c.next.new.self in
    next_left (subtract_pair line_tester c.loop-part.left.items c.in-Some.part other) (λ longer. subtract_part line_tester longer rest other)
    (left_as (ap (λ ps. subtract_part line_tester c.loop-part.left.items ps other) c.in-Some.ensures.steps.0) c.loop-part.invariant)
    c.in_ok-subtract_pair.ensures

pub returns-in_err-subtract_pair : goal.returns-in_err-subtract_pair
returns-in_err-subtract_pair c =
    let p = err_from_is_err_and c.from_residual.result c.from_residual.ensures.1 in
    let other = c.args.other.now in
    let rest = into_iter_items c.next.new.self in
    rw (p.1, p.2)
    (stop_left (subtract_pair line_tester c.loop-part.left.items c.in-Some.part other) (λ longer. subtract_part line_tester longer rest other)
    (left_as (ap (λ ps. subtract_part line_tester c.loop-part.left.items ps other) c.in-Some.ensures.steps.0) c.loop-part.invariant)
    c.in_err-subtract_pair.field-0.0 c.subtract_pair.new.trail c.in_err-subtract_pair.ensures)
