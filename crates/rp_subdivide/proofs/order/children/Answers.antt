use Rattle.std.proofs.Common.{◌≡◌, ℕ, ◌+◌, ◌∷◌, [], List, map, length, drop, sym, ap, ◌∙◌, subst}
use Rattle.std.specs.List.{AllByRecursion}
use Rattle.std.proofs.lemmas.List.{drop_all, length_push, map-append}
use Rattle.std.proofs.lemmas.Result.{err_from_is_err_and}
use Rattle.rp_algebra.proofs.Lists.{drop_item}
use Rattle.rp_algebra.proofs.Listed.{all_append}
use Rattle.rp_geometry.specs.sets.Shape.{Part}
use Rattle.rp_language.specs.Name.{Label}
use Rattle.rp_language.specs.Expression.{IsKeptExpression, Meaning}
use Rattle.rp_command.specs.declared.command.Expr.{Expr}
use Rattle.rp_command.specs.Views.{child_of, expression_of, shapes_of}
use Rattle.rp_semantics.specs.Walk.{done, after_first}
use Rattle.rp_semantics.specs.Form.{form}
use Rattle.rp_model.specs.states.State.{parts_in}
use Rattle.rp_model.specs.commands.Subdivide.{FormedChild, form_children}
use Rattle.rp_oracle.specs.Refines.{StopsBy}
use Rattle.rp_oracle.proofs.Left.{stops_on}
use Rattle.rp_subdivide.specs.declared.child.Child.{Child}
use Rattle.rp_subdivide.specs.Children.{formed_child, formed_children, IsShort}
use Rattle.rp_subdivide.proofs.Searched.{formed_on, formed_left}
use Rattle.rp_subdivide.proofs.order.children.Goals as goal

pub short_form-requires : goal.short_form-requires
short_form-requires g c =
    let l = c.loop-entry in
    (subst (λ (es : List (Label × Expr)). AllByRecursion IsKeptExpression (shapes_of es)) (drop_item c.args.entries.now l.entry-index c.entry-item.result c.loop-entry-test.true c.entry-item.is) l.invariant.kept).0

pub returns-in_err-form-clause-comes : goal.returns-in_err-form-clause-comes
returns-in_err-form-clause-comes g c =
    let p = err_from_is_err_and c.from_residual.result c.from_residual.ensures.1 in
    let tester = g.T.Oracle.tester in
    let parts = parts_in (g.K.Keeper.state c.args.keeper.now) in
    let l = c.loop-entry in
    let entry = c.entry-item.result in
    let made = formed_children g.T.Oracle.parts_of l.children in
    let e = c.in_err-form.field-0.0 in
    let new = c.short_form.new.tests in
    let left = formed_left tester parts made c.args.entries.now l.entry-index entry c.loop-entry-test.true c.entry-item.is l.tests in
    rw (p.1, p.2) (subst (StopsBy e new) (sym left ∙ l.invariant.left) (stops_on (formed_on tester parts made c.args.entries.now l.entry-index entry) e new _
    (subst (λ (m : Meaning (List Part)). StopsBy e new (form tester m (expression_of entry.1) l.tests)) c.keep_meaning.ensures c.in_err-form.ensures.comes)))

pub loop-entry-preserved : goal.loop-entry-preserved
loop-entry-preserved g c =
    let view = g.T.Oracle.parts_of in
    let tester = g.T.Oracle.tester in
    let parts = parts_in (g.K.Keeper.state c.args.keeper.now) in
    let entries = c.args.entries.now in
    let l = c.loop-entry in
    let entry = c.entry-item.result in
    let f = c.in_ok-form.form in
    let new = c.short_form.new.tests in
    let made = formed_children view l.children in
    let child : Child _ = record { id = entry.0; form = f } in
    let pushed = c.in_ok-push.ensures.ok in
    let came = subst (λ (m : Meaning (List Part)). form tester m (expression_of entry.1) l.tests ≡ done (view f) new) c.keep_meaning.ensures c.in_ok-form.ensures.comes in
    record {
      left = ap (λ (cs : List FormedChild). form_children tester parts cs (map child_of (drop (l.entry-index + 1) entries)) new) (ap (map (formed_child view)) pushed ∙ map-append (formed_child view) l.children.items (child ∷ []))
          ∙ sym (ap (after_first (formed_on tester parts made entries l.entry-index entry)) came) ∙ sym (formed_left tester parts made entries l.entry-index entry c.loop-entry-test.true c.entry-item.is l.tests) ∙ l.invariant.left;
      each = ap length pushed ∙ length_push l.children.items child ∙ ap (λ (n : ℕ). n + 1) l.invariant.each;
      kept = (subst (λ (es : List (Label × Expr)). AllByRecursion IsKeptExpression (shapes_of es)) (drop_item entries l.entry-index entry c.loop-entry-test.true c.entry-item.is) l.invariant.kept).1;
      short = subst (AllByRecursion (IsShort view)) (sym pushed) (all_append (IsShort view) l.children.items (child ∷ []) l.invariant.short (c.in_ok-form.ensures.few, tt));
    }

pub returns-clause-comes : goal.returns-clause-comes
returns-clause-comes g c =
    let l = c.loop-entry in
    sym l.invariant.left ∙ ap (λ (es : List (Label × Expr)). form_children g.T.Oracle.tester (parts_in (g.K.Keeper.state c.args.keeper.now)) (formed_children g.T.Oracle.parts_of l.children) (map child_of es) l.tests) (drop_all l.entry-index c.args.entries.now c.loop-entry-test.false)
