use Rattle.std.proofs.Common.{true, false, sym, subst}
use Rattle.rp_model.specs.states.State.{PlainState}
use Rattle.rp_reports.specs.Output.{report_lines}
use Rattle.rp_command.specs.Versions.{version_of}
use Rattle.rp_checker.specs.declared.report.Found.TheVariants.{Accepted, Wrong}
use Rattle.rp_checker.proofs.Whole.{IsGoing, begins, going_late, seen, goes_on, goes_wrong, ends, found_right, whole_accepted}
use Rattle.rp_checker.proofs.report.check_report_in.Goals as goal

pub loop-trail-init : goal.loop-trail-init
loop-trail-init c =
    let lines = report_lines c.args.report.now in
    let v = version_of c.take_mark-version.result in
    subst (λ (p : PlainState). IsGoing lines v 0 p c.take_mark-version.new.trail) (sym c.requires.empty)
    (begins lines v c.new-trail.result c.take_mark-version.new.trail c.new-trail.ensures c.take_mark-version.ensures.version c.take_mark-version.ensures.behind)

pub follow_answer-requires : goal.follow_answer-requires
follow_answer-requires c = going_late (report_lines c.args.report.now) (version_of c.take_mark-version.result) c.loop-trail.last c.loop-trail.register c.loop-trail.trail c.loop-trail.invariant

pub loop-trail-smaller : goal.loop-trail-smaller
loop-trail-smaller c =
    let left = seen c.peek.result c.loop-trail.trail.lines c.is_some.result true c.peek.ensures c.is_some.ensures c.loop-trail-test.true in
    (goes_on (report_lines c.args.report.now) (version_of c.take_mark-version.result) c.loop-trail.last c.in-Ok.n c.loop-trail.register c.follow_answer.new.register c.loop-trail.trail c.follow_answer.new.trail left c.loop-trail.invariant c.in-Ok.ensures).1

pub loop-trail-preserved : goal.loop-trail-preserved
loop-trail-preserved c =
    let left = seen c.peek.result c.loop-trail.trail.lines c.is_some.result true c.peek.ensures c.is_some.ensures c.loop-trail-test.true in
    (goes_on (report_lines c.args.report.now) (version_of c.take_mark-version.result) c.loop-trail.last c.in-Ok.n c.loop-trail.register c.follow_answer.new.register c.loop-trail.trail c.follow_answer.new.trail left c.loop-trail.invariant c.in-Ok.ensures).0

pub returns-in-Err-Wrong-clause-found : goal.returns-in-Err-Wrong-clause-found
returns-in-Err-Wrong-clause-found c =
    let left = seen c.peek.result c.loop-trail.trail.lines c.is_some.result true c.peek.ensures c.is_some.ensures c.loop-trail-test.true in
    rw c.in-Err-Wrong.field-0-is
    (goes_wrong (report_lines c.args.report.now) (version_of c.take_mark-version.result) c.loop-trail.last c.loop-trail.register c.loop-trail.trail c.in-Err-Wrong.n left c.loop-trail.invariant (rw c.in-Err-Wrong.field-0-is at c.in-Err-Wrong.ensures))

pub returns-in-Err-Wrong-clause-right : goal.returns-in-Err-Wrong-clause-right
returns-in-Err-Wrong-clause-right c =
    let left = seen c.peek.result c.loop-trail.trail.lines c.is_some.result true c.peek.ensures c.is_some.ensures c.loop-trail-test.true in
    rw c.in-Err-Wrong.field-0-is
    (found_right (Wrong c.in-Err-Wrong.n) (report_lines c.args.report.now)
    (goes_wrong (report_lines c.args.report.now) (version_of c.take_mark-version.result) c.loop-trail.last c.loop-trail.register c.loop-trail.trail c.in-Err-Wrong.n left c.loop-trail.invariant (rw c.in-Err-Wrong.field-0-is at c.in-Err-Wrong.ensures)))

pub returns-in-Err-Wrong-clause-whole : goal.returns-in-Err-Wrong-clause-whole
returns-in-Err-Wrong-clause-whole c script short told is_report same =
    let left = seen c.peek.result c.loop-trail.trail.lines c.is_some.result true c.peek.ensures c.is_some.ensures c.loop-trail-test.true in
    rw c.in-Err-Wrong.field-0-is
    (whole_accepted c.every_report_is_accepted.ensures.of_text (Wrong c.in-Err-Wrong.n) c.args.report.now script short told is_report same
    (goes_wrong (report_lines c.args.report.now) (version_of c.take_mark-version.result) c.loop-trail.last c.loop-trail.register c.loop-trail.trail c.in-Err-Wrong.n left c.loop-trail.invariant (rw c.in-Err-Wrong.field-0-is at c.in-Err-Wrong.ensures)))

pub returns-clause-found : goal.returns-clause-found
returns-clause-found c =
    ends (report_lines c.args.report.now) (version_of c.take_mark-version.result) c.loop-trail.last c.loop-trail.register c.loop-trail.trail
    (seen c.peek.result c.loop-trail.trail.lines c.is_some.result false c.peek.ensures c.is_some.ensures c.loop-trail-test.false) c.loop-trail.invariant

pub returns-clause-right : goal.returns-clause-right
returns-clause-right c =
    found_right Accepted (report_lines c.args.report.now)
    (ends (report_lines c.args.report.now) (version_of c.take_mark-version.result) c.loop-trail.last c.loop-trail.register c.loop-trail.trail
    (seen c.peek.result c.loop-trail.trail.lines c.is_some.result false c.peek.ensures c.is_some.ensures c.loop-trail-test.false) c.loop-trail.invariant)
