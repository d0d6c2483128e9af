use Rattle.std.proofs.lemmas.Result.{err_from_is_err_and}
use Rattle.rp_lots.proofs.Names.{names_end}
use Rattle.rp_changes.proofs.joining.retire.Goals as goal

pub returns-in_err-check_live : goal.returns-in_err-check_live
returns-in_err-check_live g c w =
    let p = err_from_is_err_and c.from_residual.result c.from_residual.ensures.1 in
    rw (p.1, p.2) (names_end c.in_err-check_live.field-0.0 _ _ w (c.in_err-check_live.ensures.checks (g.K.Keeper.state c.args.keeper.now) c.history.ensures.value))
