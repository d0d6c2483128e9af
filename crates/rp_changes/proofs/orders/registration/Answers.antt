use Rattle.std.proofs.Common.{subst}
use Rattle.std.proofs.lemmas.Result.{err_from_is_err_and}
use Rattle.rp_language.specs.Name.{Label}
use Rattle.rp_model.specs.commands.Register.{row_register}
use Rattle.rp_history.specs.Lots.{lots_in}
use Rattle.rp_lots.specs.Changes.{Changes, replaced_of}
use Rattle.rp_lots.proofs.BornLots.{replaced_row}
use Rattle.rp_changes.proofs.orders.registration.Goals as goal

pub returns-in_err-form : goal.returns-in_err-form
returns-in_err-form g c =
    let p = err_from_is_err_and c.from_residual.result c.from_residual.ensures.1 in
    let tester = g.T.Oracle.tester in
    let s = g.K.Keeper.state c.args.keeper.now in
    rw (p.1, p.2) (c.in_err-form.ensures.goes_on (λ ps. row_register tester s c.args.id ps))

pub returns : goal.returns
returns g c =
    let view = g.T.Oracle.parts_of in
    let tester = g.T.Oracle.tester in
    let s = g.K.Keeper.state c.args.keeper.now in
    let w = c.make_lot.new.tests in
    let ps = view c.in_ok-form.form in
    let u = c.formed_by.new.tests in
    let here = subst (λ (y : Label). Changes (replaced_of view) c.make_lot.result w (row_register tester (lots_in y s.lots) c.args.id ps u)) c.layer.ensures c.make_lot.ensures in
    replaced_row view c.make_lot.result c.replacing.result w (row_register tester s c.args.id ps u) _ c.replacing.ensures (c.in_ok-form.ensures.goes_on (λ ps. row_register tester s c.args.id ps)) here
