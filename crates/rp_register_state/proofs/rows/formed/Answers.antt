use Rattle.std.proofs.Common.{◌≡◌, List, w32, sym, ap, ◌∙◌, subst}
use Rattle.std.proofs.lemmas.Int.{to_z-of_z}
use Rattle.std.proofs.lemmas.Result.{err_from_is_err_and}
use Rattle.rp_command.specs.Views.{expression_of}
use Rattle.rp_geometry.specs.sets.Shape.{Part}
use Rattle.rp_language.specs.Expression.{Meaning}
use Rattle.rp_model.specs.commands.Section.{row_section}
use Rattle.rp_answer.specs.Replies.{EndsBy, row_of_form}
use Rattle.rp_register_state.proofs.rows.formed.Goals as goal

pub returns-in_err-form-clause-goes_on : goal.returns-in_err-form-clause-goes_on
returns-in_err-form-clause-goes_on g c =
    let tester = g.T.Oracle.tester in
    let p = err_from_is_err_and c.from_residual.result c.from_residual.ensures.1 in
    rw (p.1, p.2) (subst (λ (m : Meaning (List Part)). EndsBy c.in_err-form.field-0.0 c.row_form.new.tests (row_of_form tester m (expression_of c.args.region.now) (row_section tester c.args.z) c.args.tests.now)) c.keep_meaning.ensures (c.in_err-form.ensures.goes_on (row_section tester c.args.z)))

pub returns-clause-goes_on : goal.returns-clause-goes_on
returns-clause-goes_on g c =
    let tester = g.T.Oracle.tester in
    let view = g.T.Oracle.parts_of in
    let z = c.args.z in
    let u = c.row_form.new.tests in
    let ps = view c.in_ok-form.form in
    subst (λ (m : Meaning (List Part)). row_of_form tester m (expression_of c.args.region.now) (row_section tester z) c.args.tests.now ≡ row_section tester z ps u) c.keep_meaning.ensures (c.in_ok-form.ensures.goes_on (row_section tester z))
    ∙ ap (λ y. row_section tester y ps u) (sym (to_z-of_z w32 z c.ranges.z))
