use Rattle.std.proofs.lemmas.Result.{err_from_is_err_and}
use Rattle.rp_lots.proofs.Names.{names_end}
use Rattle.rp_contacts.proofs.access.access_left.Goals as goal

pub returns-in_err-layer-clause-left : goal.returns-in_err-layer-clause-left
returns-in_err-layer-clause-left g c =
    let p = err_from_is_err_and c.from_residual.result c.from_residual.ensures.1 in
    let s = g.K.Keeper.state c.args.keeper.now in
    rw (p.1, p.2) (names_end c.in_err-layer.field-0.0 _ _ c.args.tests.now (c.in_err-layer.ensures.checks s c.history.ensures.value))

pub layer_left-requires-clause-checks : goal.layer_left-requires-clause-checks
layer_left-requires-clause-checks g c = c.in_ok-layer.ensures.checks (g.K.Keeper.state c.args.keeper.now) c.history.ensures.value

pub layer_left-requires-clause-layer : goal.layer_left-requires-clause-layer
layer_left-requires-clause-layer g c = c.in_ok-layer.ensures.layer (g.K.Keeper.state c.args.keeper.now) c.history.ensures.value

pub returns-in_err-layer_left-clause-left : goal.returns-in_err-layer_left-clause-left
returns-in_err-layer_left-clause-left g c =
    let p = err_from_is_err_and c.from_residual-in_err-layer_left.result c.from_residual-in_err-layer_left.ensures.1 in
    rw (p.1, p.2) c.in_err-layer_left.ensures.left
