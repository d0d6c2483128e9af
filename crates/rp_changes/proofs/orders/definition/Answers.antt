use Rattle.std.proofs.Common.{sym, subst}
use Rattle.rp_model.specs.commands.Let.{row_define}
use Rattle.rp_lots.specs.Changes.{Changes, change_of}
use Rattle.rp_changes.proofs.orders.definition.Goals as goal

pub returns : goal.returns
returns g c =
    let s = g.K.Keeper.state c.args.keeper.now in
    let u = c.formed_by.new.tests in
    subst (λ o. Changes (change_of g.T.Oracle.parts_of) c.define.result u o) (sym (c.in_ok-form.ensures.goes_on (λ ps. row_define s c.args.name ps))) (c.define.ensures u)
