use Rattle.std.proofs.lemmas.Result.{err_from_is_err_and}
use Rattle.rp_model.specs.commands.Cut.{row_cut}
use Rattle.rp_lots.proofs.BornLots.{replaced_row}
use Rattle.rp_changes.proofs.orders.cutting.Goals as goal

pub returns-in_err-form : goal.returns-in_err-form
returns-in_err-form g c =
    let p = err_from_is_err_and c.from_residual.result c.from_residual.ensures.1 in
    let tester = g.T.Oracle.tester in
    let s = g.K.Keeper.state c.args.keeper.now in
    rw (p.1, p.2) (c.in_err-form.ensures.goes_on (λ ps. row_cut tester s c.args.id ps c.args.first c.args.second))

pub returns : goal.returns
returns g c =
    let view = g.T.Oracle.parts_of in
    let tester = g.T.Oracle.tester in
    let s = g.K.Keeper.state c.args.keeper.now in
    let w = c.cut.new.tests in
    replaced_row view c.cut.result c.replacing.result w (row_cut tester s c.args.id (view c.in_ok-form.form) c.args.first c.args.second c.formed_by.new.tests) _ c.replacing.ensures (c.in_ok-form.ensures.goes_on (λ ps. row_cut tester s c.args.id ps c.args.first c.args.second)) c.cut.ensures
