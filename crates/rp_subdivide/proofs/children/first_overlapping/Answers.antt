use Rattle.std.proofs.Common.{ℕ, ◌+◌, List, map, Option, sym, ap, ◌∙◌, subst}
use Rattle.std.specs.Prelude.{option_map}
use Rattle.std.proofs.lemmas.List.{drop_all}
use Rattle.std.proofs.lemmas.Result.{err_from_is_err_and}
use Rattle.rp_semantics.specs.Walk.{after_first}
use Rattle.rp_model.specs.commands.Verdict.{children_overlap}
use Rattle.rp_model.specs.commands.Subdivide.{first_overlapping_children}
use Rattle.rp_oracle.specs.Refines.{StopsBy}
use Rattle.rp_oracle.proofs.Left.{stops_on}
use Rattle.rp_subdivide.specs.declared.child.Child.{Child}
use Rattle.rp_subdivide.specs.Children.{formed_child}
use Rattle.rp_subdivide.proofs.Searched.{overlapping_with_on, overlapping_with_left}
use Rattle.rp_subdivide.proofs.children.first_overlapping.Goals as goal

pub returns-in_err-found : goal.returns-in_err-found
returns-in_err-found g c =
    let p = err_from_is_err_and c.from_residual.result c.from_residual.ensures.1 in
    let view = g.T.Oracle.parts_of in
    let tester = g.T.Oracle.tester in
    let children = c.args.children.now in
    let l = c.loop-place in
    let e = c.in_err-found.field-0.0 in
    let new = c.first_overlapping_with.new.tests in
    let left = overlapping_with_left view tester children l.place c.index-children-place.result c.loop-place-test.true c.index-children-place.is (l.place + 1) l.tests in
    rw (p.1, p.2) (subst (StopsBy e new) (sym left ∙ l.invariant) (stops_on (overlapping_with_on view tester children l.place (l.place + 1)) e new _ c.in_err-found.ensures))

pub returns-in-Some : goal.returns-in-Some
returns-in-Some g c =
    let view = g.T.Oracle.parts_of in
    let tester = g.T.Oracle.tester in
    let children = c.args.children.now in
    let l = c.loop-place in
    let on = overlapping_with_on view tester children l.place (l.place + 1) in
    sym l.invariant ∙ overlapping_with_left view tester children l.place c.index-children-place.result c.loop-place-test.true c.index-children-place.is (l.place + 1) l.tests
    ∙ ap (after_first on) c.in_ok-found.ensures ∙ ap (λ (o : Option ℕ). on (option_map (children_overlap (l.place + 1)) o) c.first_overlapping_with.new.tests) c.in-Some.is

pub loop-place-preserved : goal.loop-place-preserved
loop-place-preserved g c =
    let view = g.T.Oracle.parts_of in
    let tester = g.T.Oracle.tester in
    let children = c.args.children.now in
    let l = c.loop-place in
    let on = overlapping_with_on view tester children l.place (l.place + 1) in
    sym (ap (λ (o : Option ℕ). on (option_map (children_overlap (l.place + 1)) o) c.first_overlapping_with.new.tests) c.in_default.is) ∙ sym (ap (after_first on) c.in_ok-found.ensures)
    ∙ sym (overlapping_with_left view tester children l.place c.index-children-place.result c.loop-place-test.true c.index-children-place.is (l.place + 1) l.tests) ∙ l.invariant

pub returns : goal.returns
returns g c =
    let view = g.T.Oracle.parts_of in
    let l = c.loop-place in
    sym l.invariant ∙ ap (λ (cs : List (Child _)). first_overlapping_children g.T.Oracle.tester (l.place + 1) (map (formed_child view) cs) l.tests) (drop_all l.place c.args.children.now c.loop-place-test.false)
