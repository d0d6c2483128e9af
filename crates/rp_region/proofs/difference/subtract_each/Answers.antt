use Rattle.std.proofs.Common.{[], ◌+◌, List, drop, ap, subst, ◌≤◌, length}
use Rattle.std.proofs.lemmas.Result.{err_from_is_err_and}
use Rattle.rp_algebra.proofs.Lists.{drop_item}
use Rattle.rp_geometry.specs.sets.Shape.{Part}
use Rattle.rp_geometry.specs.parts.Parts.{most_parts}
use Rattle.rp_semantics.specs.Walk.{◌>>=◌, first_tester}
use Rattle.rp_semantics.specs.Form.{if_at_most, subtract_part, subtract}
use Rattle.rp_region.proofs.Grows.{then_tells, few_tells, subtract_part_tells, subtract_tells}
use Rattle.rp_region.proofs.Left.{left_as, next_left, fault_left}
use Rattle.rp_region.proofs.Steps.{few_pass}
use Rattle.rp_region.proofs.difference.subtract_each.Goals as goal

pub returns-in_err-current : goal.returns-in_err-current
returns-in_err-current c =
    let p = err_from_is_err_and c.from_residual.result c.from_residual.ensures.1 in
    let rest = drop (c.loop-other.other-index + 1) c.args.others.now in
    rw (p.1, p.2)
    (fault_left (subtract_part first_tester [] c.loop-other.current.items c.other-item.result) (λ left. if_at_most most_parts left >>= λ next. subtract first_tester next rest)
    (λ left. then_tells (if_at_most most_parts left) (λ next. subtract first_tester next rest) (few_tells most_parts left) (λ next. subtract_tells next rest))
    (left_as (ap (subtract first_tester c.loop-other.current.items) (drop_item c.args.others.now c.loop-other.other-index c.other-item.result c.loop-other-test.true c.other-item.is)) c.loop-other.invariant)
    c.in_err-current.field-0.0 c.subtract_part.new.work c.in_err-current.ensures)

pub loop-other-preserved : goal.loop-other-preserved
loop-other-preserved c =
    let rest = drop (c.loop-other.other-index + 1) c.args.others.now in
    let current = c.in_ok-current.current.items in
    left_as (few_pass most_parts current (λ next. subtract first_tester next rest) (subst (λ (ps : List Part). length ps ≤ most_parts) c.items.ensures c.if-items-gt-MAX_PARTS.false))
    (next_left (subtract_part first_tester [] c.loop-other.current.items c.other-item.result) (λ left. if_at_most most_parts left >>= λ next. subtract first_tester next rest)
    (subtract_part_tells [] c.loop-other.current.items c.other-item.result)
    (left_as (ap (subtract first_tester c.loop-other.current.items) (drop_item c.args.others.now c.loop-other.other-index c.other-item.result c.loop-other-test.true c.other-item.is)) c.loop-other.invariant)
    c.in_ok-current.ensures)
