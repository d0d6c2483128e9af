use Rattle.std.specs.Prelude.{Ok, Err}
use Rattle.std.proofs.lemmas.Result.{err_from_is_err_and}
use Rattle.rp_model.specs.states.State.{parts_in}
use Rattle.rp_model.specs.commands.Parts.{shapes_of_parts}
use Rattle.rp_command.specs.Views.{expression_of}
use Rattle.rp_machine.proofs.Formed.{form_has, form_taken, op_fails}
use Rattle.rp_machine.proofs.state.State.form.Goals as goal

pub returns-in_err-take_over-clause-makes : goal.returns-in_err-take_over-clause-makes
returns-in_err-take_over-clause-makes c none =
    let p = err_from_is_err_and c.from_residual.result c.from_residual.ensures.1 in
    let m = parts_in c.args.self.now in
    let e = expression_of c.args.region.now in
    let fault = c.in_err-take_over.field-0.0 in
    let old = c.args.work.now in
    let new = c.take_over.new.self in
    rw (p.1, p.2)
    (op_fails fault m e old new (form_taken m e c.formed-form.result (Err fault) old c.fresh-walked.result c.formed-form.new.tests new c.fresh-walked.ensures c.formed-form.ensures c.in_err-take_over.ensures))

pub returns-clause-makes : goal.returns-clause-makes
returns-clause-makes c none =
    form_taken (parts_in c.args.self.now) (expression_of c.args.region.now) c.formed-form.result (Ok c.in_ok-take_over.field-0) c.args.work.now c.fresh-walked.result c.formed-form.new.tests c.take_over.new.self
    c.fresh-walked.ensures c.formed-form.ensures c.in_ok-take_over.ensures

pub returns-clause-members : goal.returns-clause-members
returns-clause-members c =
    let m = parts_in c.args.self.now in
    let e = expression_of c.args.region.now in
    let form = c.in_ok-take_over.field-0 in
    let old = c.args.work.now in
    let new = c.take_over.new.self in
    form_has m (shapes_of_parts m) c.keep_sound.ensures.regions e c.requires old new form
    (form_taken m e c.formed-form.result (Ok form) old c.fresh-walked.result c.formed-form.new.tests new c.fresh-walked.ensures c.formed-form.ensures c.in_ok-take_over.ensures)
