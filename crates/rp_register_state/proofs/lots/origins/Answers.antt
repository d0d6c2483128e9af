use Rattle.std.proofs.Common.{length, ap, arith}
use Rattle.std.proofs.lemmas.List.{length-map}
use Rattle.rp_model.specs.states.State.{bare_lot}
use Rattle.rp_rows.proofs.BareLots.{bare_told}
use Rattle.rp_register_state.proofs.lots.origins.Goals as goal

pub lineage-requires : goal.lineage-requires
lineage-requires g c =
    let kept = ap length c.history.ensures.value in
    let bare = length-map (g.K.Keeper.state c.args.keeper.now).lots bare_lot in
    let few = c.history.ensures.few in
    omega (arith, kept, bare, few)

pub returns : goal.returns
returns g c w = bare_told c.lineage.result (g.K.Keeper.state c.args.keeper.now) c.args.id c.history.result.now w c.history.ensures.value c.lineage.ensures
