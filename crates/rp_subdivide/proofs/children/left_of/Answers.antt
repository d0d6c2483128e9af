use Rattle.std.proofs.Common.{◌+◌, drop}
use Rattle.std.proofs.lemmas.Result.{err_from_is_err_and}
use Rattle.rp_semantics.specs.Form.{subtract}
use Rattle.rp_oracle.proofs.Left.{next_left, stop_left}
use Rattle.rp_subdivide.proofs.TakenAway.{parts_of_all, child_left}
use Rattle.rp_subdivide.proofs.children.left_of.Goals as goal

pub returns-in_err-left-2 : goal.returns-in_err-left-2
returns-in_err-left-2 g c =
    let p = err_from_is_err_and c.from_residual-in_err-left-2.result c.from_residual-in_err-left-2.ensures.1 in
    let view = g.T.Oracle.parts_of in
    let tester = g.T.Oracle.tester in
    let i = c.loop-child.child-index in
    let children = c.args.children.now in
    let child = c.child-item.result in
    let left = view c.loop-child.left in
    rw (p.1, p.2)
    (stop_left (subtract tester left (view child.form)) (λ next. subtract tester next (parts_of_all view (drop (i + 1) children)))
    (child_left view tester children i child left c.loop-child-test.true c.child-item.is c.loop-child.invariant) c.in_err-left-2.field-0.0 c.into_minus.new.self c.in_err-left-2.ensures)

pub loop-child-preserved : goal.loop-child-preserved
loop-child-preserved g c =
    let view = g.T.Oracle.parts_of in
    let tester = g.T.Oracle.tester in
    let i = c.loop-child.child-index in
    let children = c.args.children.now in
    let child = c.child-item.result in
    let left = view c.loop-child.left in
    next_left (subtract tester left (view child.form)) (λ next. subtract tester next (parts_of_all view (drop (i + 1) children)))
    (child_left view tester children i child left c.loop-child-test.true c.child-item.is c.loop-child.invariant) c.in_ok-left-2.ensures
