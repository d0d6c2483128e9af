use Rattle.std.proofs.Common.{[], ◌+◌, List, drop, ap, subst, ◌≤◌, length}
use Rattle.std.proofs.lemmas.Result.{err_from_is_err_and}
use Rattle.rp_algebra.proofs.Lists.{drop_item}
use Rattle.rp_geometry.specs.sets.Shape.{Part}
use Rattle.rp_geometry.specs.parts.Parts.{most_parts}
use Rattle.rp_reports.specs.Check.{Trail, line_tester}
use Rattle.rp_semantics.specs.Walk.{Walk, ◌>>=◌}
use Rattle.rp_semantics.specs.Form.{if_at_most, subtract_part, subtract}
use Rattle.rp_oracle.proofs.Left.{left_as, next_left, stop_left}
use Rattle.rp_trail.proofs.Steps.{few_pass}
use Rattle.rp_trail.proofs.difference.subtract.Goals as goal

pub returns-in_err-current : goal.returns-in_err-current
returns-in_err-current c =
    let p = err_from_is_err_and c.from_residual.result c.from_residual.ensures.1 in
    let rest = drop (c.loop-other.other-index + 1) c.args.others.now in
    rw (p.1, p.2)
    (stop_left (subtract_part line_tester [] c.loop-other.current.items c.other-item.result) (λ left. if_at_most most_parts left >>= λ next. subtract line_tester next rest)
    (left_as (ap (subtract line_tester c.loop-other.current.items) (drop_item c.args.others.now c.loop-other.other-index c.other-item.result c.loop-other-test.true c.other-item.is)) c.loop-other.invariant)
    c.in_err-current.field-0.0 c.subtract_part.new.trail c.in_err-current.ensures)

pub loop-other-preserved : goal.loop-other-preserved
loop-other-preserved c =
    let rest = drop (c.loop-other.other-index + 1) c.args.others.now in
    let current = c.in_ok-current.current.items in
    left_as (ap (λ (walk : Walk Trail (List Part)). walk >>= λ next. subtract line_tester next rest) (few_pass most_parts current (subst (λ (ps : List Part). length ps ≤ most_parts) c.items.ensures c.if-items-gt-MAX_PARTS.false)))
    (next_left (subtract_part line_tester [] c.loop-other.current.items c.other-item.result) (λ left. if_at_most most_parts left >>= λ next. subtract line_tester next rest)
    (left_as (ap (subtract line_tester c.loop-other.current.items) (drop_item c.args.others.now c.loop-other.other-index c.other-item.result c.loop-other-test.true c.other-item.is)) c.loop-other.invariant)
    c.in_ok-current.ensures)
