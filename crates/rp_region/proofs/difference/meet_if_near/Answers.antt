use Rattle.std.proofs.Common.{Bool, Ok, Err, sym}
use Rattle.std.proofs.lemmas.Result.{err_from_is_err_and}
use Rattle.rp_region.specs.declared.fault.OpFault.TheVariants.{Memory}
use Rattle.rp_region.proofs.Left.{makes_left}
use Rattle.rp_region.proofs.Steps.{apart_unmet, meet_uncounted, meet_counted}
use Rattle.rp_region.proofs.difference.meet_if_near.Goals as goal

pub returns-in_err-count_test-clause-makes : goal.returns-in_err-count_test-clause-makes
returns-in_err-count_test-clause-makes c =
    let p = err_from_is_err_and c.from_residual.result c.from_residual.ensures.1 in
    rw (p.1, p.2) (meet_uncounted c.args.part.now c.args.other.now c.args.work.now c.count_test.new.work (sym c.if-not-may_overlap.ensures.value) c.in_err-count_test.field-0.0 c.in_err-count_test.ensures)

pub returns-in_err-meets-clause-makes : goal.returns-in_err-meets-clause-makes
returns-in_err-meets-clause-makes c =
    let p = err_from_is_err_and c.from_residual-in_err-meets.result c.from_residual-in_err-meets.ensures.1 in
    let part = c.args.part.now in
    let other = c.args.other.now in
    rw (p.1, p.2)
    (makes_left (λ (has_one : Bool). has_one) (Err (Memory c.in_err-meets.field-0.0)) c.meets.new.work
    (meet_counted part other c.args.work.now c.count_test.new.work (sym c.if-not-may_overlap.ensures.value) c.in_ok-count_test.ensures) c.in_err-meets.ensures.makes)

pub returns-clause-makes : goal.returns-clause-makes
returns-clause-makes c =
    makes_left (λ (has_one : Bool). has_one) (Ok c.in_ok-meets.field-0) c.meets.new.work
    (meet_counted c.args.part.now c.args.other.now c.args.work.now c.count_test.new.work (sym c.if-not-may_overlap.ensures.value) c.in_ok-count_test.ensures) c.in_ok-meets.ensures.makes

pub returns-then-not-may_overlap-clause-makes : goal.returns-then-not-may_overlap-clause-makes
returns-then-not-may_overlap-clause-makes c = apart_unmet c.args.part.now c.args.other.now c.args.work.now (sym c.if-not-may_overlap.ensures.value)
