use Rattle.std.proofs.Common.{Bool, List, map, sym, ap, ◌∙◌, subst, arith}
use Rattle.std.proofs.lemmas.List.{drop_all}
use Rattle.std.proofs.lemmas.Result.{err_from_is_err_and}
use Rattle.rp_semantics.specs.Walk.{after_first}
use Rattle.rp_model.specs.commands.Subdivide.{first_overlapping_child}
use Rattle.rp_oracle.specs.Refines.{StopsBy}
use Rattle.rp_oracle.proofs.Left.{stops_on}
use Rattle.rp_subdivide.specs.declared.child.Child.{Child}
use Rattle.rp_subdivide.specs.Children.{formed_child}
use Rattle.rp_subdivide.proofs.Searched.{overlapping_on, overlapping_left}
use Rattle.rp_subdivide.proofs.children.first_overlapping_with.Goals as goal

pub returns-in_err-overlap : goal.returns-in_err-overlap
returns-in_err-overlap g c =
    let p = err_from_is_err_and c.from_residual.result c.from_residual.ensures.1 in
    let view = g.T.Oracle.parts_of in
    let tester = g.T.Oracle.tester in
    let m = c.args.first in
    let ps = view c.args.child.now.form in
    let behind = c.args.behind.now in
    let l = c.loop-other in
    let e = c.in_err-overlap.field-0.0 in
    let new = c.overlap.new.tests in
    let left = overlapping_left view tester behind l.other-index c.other-item.result c.loop-other-test.true c.other-item.is m ps l.number l.tests in
    rw (p.1, p.2) (subst (StopsBy e new) (sym left ∙ l.invariant.0) (stops_on (overlapping_on view tester behind l.other-index m ps l.number) e new _ c.in_err-overlap.ensures))

pub returns-then-branch : goal.returns-then-branch
returns-then-branch g c =
    let view = g.T.Oracle.parts_of in
    let tester = g.T.Oracle.tester in
    let m = c.args.first in
    let ps = view c.args.child.now.form in
    let behind = c.args.behind.now in
    let l = c.loop-other in
    let on = overlapping_on view tester behind l.other-index m ps l.number in
    sym l.invariant.0 ∙ overlapping_left view tester behind l.other-index c.other-item.result c.loop-other-test.true c.other-item.is m ps l.number l.tests
    ∙ ap (after_first on) c.in_ok-overlap.ensures ∙ ap (λ (b : Bool). on b c.overlap.new.tests) c.if-branch.true

pub loop-other-preserved : goal.loop-other-preserved
loop-other-preserved g c =
    let view = g.T.Oracle.parts_of in
    let tester = g.T.Oracle.tester in
    let m = c.args.first in
    let ps = view c.args.child.now.form in
    let behind = c.args.behind.now in
    let l = c.loop-other in
    let on = overlapping_on view tester behind l.other-index m ps l.number in
    let number = l.invariant.1 in (
      sym (ap (λ (b : Bool). on b c.overlap.new.tests) c.if-branch.false) ∙ sym (ap (after_first on) c.in_ok-overlap.ensures)
          ∙ sym (overlapping_left view tester behind l.other-index c.other-item.result c.loop-other-test.true c.other-item.is m ps l.number l.tests) ∙ l.invariant.0,
      omega (arith, number),
    )

pub returns : goal.returns
returns g c =
    let view = g.T.Oracle.parts_of in
    let l = c.loop-other in
    sym l.invariant.0 ∙ ap (λ (cs : List (Child _)). first_overlapping_child g.T.Oracle.tester c.args.first (view c.args.child.now.form) l.number (map (formed_child view) cs) l.tests) (drop_all l.other-index c.args.behind.now c.loop-other-test.false)
