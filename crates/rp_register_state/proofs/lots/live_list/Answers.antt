use Rattle.std.proofs.Common.{List, length, sym, ap, ◌∙◌, arith}
use Rattle.std.proofs.lemmas.List.{length-map}
use Rattle.rp_semantics.specs.Walk.{done}
use Rattle.rp_model.specs.states.State.{bare_lot}
use Rattle.rp_model.specs.commands.Verdict.{Verdict}
use Rattle.rp_model.specs.commands.Reply.{reply_lines}
use Rattle.rp_rows.proofs.BareLots.{bare_list}
use Rattle.rp_register_state.proofs.lots.live_list.Goals as goal

pub list-requires : goal.list-requires
list-requires g c =
    let kept = ap length c.history.ensures.value in
    let bare = length-map (g.K.Keeper.state c.args.keeper.now).lots bare_lot in
    let few = c.history.ensures.few in
    omega (arith, kept, bare, few)

pub returns : goal.returns
returns g c w = ap (λ (vs : List Verdict). done (reply_lines vs) w) (sym (c.in_ok-list.ensures ∙ bare_list (g.K.Keeper.state c.args.keeper.now).lots c.history.result.now c.history.ensures.value))
