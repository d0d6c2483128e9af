use Rattle.std.proofs.Common.{◌+◌, drop, sym, ap, ◌∙◌}
use Rattle.std.proofs.lemmas.Result.{err_from_is_err_and}
use Rattle.rp_algebra.proofs.Lists.{drop_item}
use Rattle.rp_semantics.specs.Walk.{first_tester}
use Rattle.rp_semantics.specs.Form.{join_pair, join_with_part}
use Rattle.rp_region.proofs.Grows.{join_pair_tells, join_with_part_tells}
use Rattle.rp_region.proofs.Left.{left_as, next_left, fault_left}
use Rattle.rp_region.proofs.join.join_with_part.Goals as goal

pub returns-in_err-join_pair : goal.returns-in_err-join_pair
returns-in_err-join_pair c =
    let p = err_from_is_err_and c.from_residual.result c.from_residual.ensures.1 in
    let part = c.args.part.now in
    let rest = drop (c.loop-other.other-index + 1) c.args.others.now in
    rw (p.1, p.2)
    (fault_left (join_pair first_tester c.loop-other.made.items part c.other-item.result) (λ longer. join_with_part first_tester longer part rest)
    (λ longer. join_with_part_tells longer part rest)
    (left_as (ap (λ qs. join_with_part first_tester c.loop-other.made.items part qs) (drop_item c.args.others.now c.loop-other.other-index c.other-item.result c.loop-other-test.true c.other-item.is)) c.loop-other.invariant.1)
    c.in_err-join_pair.field-0.0 c.join_pair.new.work (c.in_err-join_pair.ensures.makes part (sym c.loop-other.invariant.0)))

pub loop-other-preserved : goal.loop-other-preserved
loop-other-preserved c =
    let part = c.args.part.now in
    let rest = drop (c.loop-other.other-index + 1) c.args.others.now in (
      c.in_ok-join_pair.ensures.same ∙ c.loop-other.invariant.0,
      next_left (join_pair first_tester c.loop-other.made.items part c.other-item.result) (λ longer. join_with_part first_tester longer part rest)
          (join_pair_tells c.loop-other.made.items part c.other-item.result)
          (left_as (ap (λ qs. join_with_part first_tester c.loop-other.made.items part qs) (drop_item c.args.others.now c.loop-other.other-index c.other-item.result c.loop-other-test.true c.other-item.is)) c.loop-other.invariant.1)
          (c.in_ok-join_pair.ensures.makes part (sym c.loop-other.invariant.0)),
    )
