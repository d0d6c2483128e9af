use Rattle.std.proofs.Common.{◌+◌, drop, ap}
use Rattle.std.proofs.lemmas.Result.{err_from_is_err_and}
use Rattle.rp_algebra.proofs.Lists.{drop_item}
use Rattle.rp_reports.specs.Check.{line_tester}
use Rattle.rp_semantics.specs.Form.{join_pair, join_with_part}
use Rattle.rp_oracle.proofs.Left.{left_as, next_left, stop_left}
use Rattle.rp_trail.proofs.join.join_with_part.Goals as goal

pub returns-in_err-join_pair : goal.returns-in_err-join_pair
returns-in_err-join_pair c =
    let p = err_from_is_err_and c.from_residual.result c.from_residual.ensures.1 in
    let part = c.args.part.now in
    let rest = drop (c.loop-other.other-index + 1) c.args.others.now in
    rw (p.1, p.2)
    (stop_left (join_pair line_tester c.loop-other.form.items part c.other-item.result) (λ longer. join_with_part line_tester longer part rest)
    (left_as (ap (λ qs. join_with_part line_tester c.loop-other.form.items part qs) (drop_item c.args.others.now c.loop-other.other-index c.other-item.result c.loop-other-test.true c.other-item.is)) c.loop-other.invariant)
    c.in_err-join_pair.field-0.0 c.join_pair.new.trail c.in_err-join_pair.ensures)

pub loop-other-preserved : goal.loop-other-preserved
loop-other-preserved c =
    let part = c.args.part.now in
    let rest = drop (c.loop-other.other-index + 1) c.args.others.now in
    next_left (join_pair line_tester c.loop-other.form.items part c.other-item.result) (λ longer. join_with_part line_tester longer part rest)
    (left_as (ap (λ qs. join_with_part line_tester c.loop-other.form.items part qs) (drop_item c.args.others.now c.loop-other.other-index c.other-item.result c.loop-other-test.true c.other-item.is)) c.loop-other.invariant)
    c.in_ok-join_pair.ensures
