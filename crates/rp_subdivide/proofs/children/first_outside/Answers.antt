use Rattle.std.proofs.Common.{Bool, List, map, sym, ap, ◌∙◌, subst, arith}
use Rattle.std.proofs.lemmas.List.{drop_all}
use Rattle.std.proofs.lemmas.Result.{err_from_is_err_and}
use Rattle.rp_semantics.specs.Walk.{after_first}
use Rattle.rp_model.specs.commands.Subdivide.{first_outside_child}
use Rattle.rp_oracle.specs.Refines.{StopsBy}
use Rattle.rp_oracle.proofs.Left.{stops_on}
use Rattle.rp_subdivide.specs.declared.child.Child.{Child}
use Rattle.rp_subdivide.specs.Children.{formed_child}
use Rattle.rp_subdivide.proofs.Searched.{outside_on, outside_left}
use Rattle.rp_subdivide.proofs.children.first_outside.Goals as goal

pub returns-in_err-within : goal.returns-in_err-within
returns-in_err-within g c =
    let p = err_from_is_err_and c.from_residual.result c.from_residual.ensures.1 in
    let view = g.T.Oracle.parts_of in
    let tester = g.T.Oracle.tester in
    let qs = view c.args.whole.now in
    let children = c.args.children.now in
    let l = c.loop-child in
    let e = c.in_err-within.field-0.0 in
    let new = c.within.new.tests in
    let left = outside_left view tester children l.child-index c.child-item.result c.loop-child-test.true c.child-item.is qs l.number l.tests in
    rw (p.1, p.2) (subst (StopsBy e new) (sym left ∙ l.invariant.0) (stops_on (outside_on view tester children l.child-index qs l.number) e new _ c.in_err-within.ensures))

pub returns-then-not-branch : goal.returns-then-not-branch
returns-then-not-branch g c =
    let view = g.T.Oracle.parts_of in
    let tester = g.T.Oracle.tester in
    let qs = view c.args.whole.now in
    let children = c.args.children.now in
    let l = c.loop-child in
    let on = outside_on view tester children l.child-index qs l.number in
    sym l.invariant.0 ∙ outside_left view tester children l.child-index c.child-item.result c.loop-child-test.true c.child-item.is qs l.number l.tests
    ∙ ap (after_first on) c.in_ok-within.ensures ∙ ap (λ (b : Bool). on b c.within.new.tests) c.if-not-branch.true

pub loop-child-preserved : goal.loop-child-preserved
loop-child-preserved g c =
    let view = g.T.Oracle.parts_of in
    let tester = g.T.Oracle.tester in
    let qs = view c.args.whole.now in
    let children = c.args.children.now in
    let l = c.loop-child in
    let on = outside_on view tester children l.child-index qs l.number in
    let number = l.invariant.1 in (
      sym (ap (λ (b : Bool). on b c.within.new.tests) c.if-not-branch.false) ∙ sym (ap (after_first on) c.in_ok-within.ensures)
          ∙ sym (outside_left view tester children l.child-index c.child-item.result c.loop-child-test.true c.child-item.is qs l.number l.tests) ∙ l.invariant.0,
      omega (arith, number),
    )

pub returns : goal.returns
returns g c =
    let view = g.T.Oracle.parts_of in
    let l = c.loop-child in
    sym l.invariant.0 ∙ ap (λ (cs : List (Child _)). first_outside_child g.T.Oracle.tester (view c.args.whole.now) l.number (map (formed_child view) cs) l.tests) (drop_all l.child-index c.args.children.now c.loop-child-test.false)
