use Rattle.std.proofs.Common.{List, length, ap, ◌∙◌, arith}
use Rattle.std.proofs.lemmas.List.{length-map}
use Rattle.rp_model.specs.states.State.{Lot, PlainState, bare_lot, live_lots}
use Rattle.rp_history.proofs.Bare.{bare_live}
use Rattle.rp_machine.proofs.state.State.count_live.Goals as goal

pub overflow_cast-result : goal.overflow_cast-result
overflow_cast-result c =
    let few = c.live_count.ensures.few in
    let same = ap length c.history.ensures.value in
    let bare = length-map c.self.inside.register_state.lots bare_lot in
    let most = c.history.ensures.few in
    omega (arith, few, same, bare, most)

pub returns : goal.returns
returns c =
    let lots = c.self.inside.register_state.lots in
    c.live_count.ensures.value ∙ ap (λ (ls : List (Lot (Unit {0}))). length (live_lots ls)) c.history.ensures.value
    ∙ ap length (bare_live lots) ∙ length-map (live_lots lots) bare_lot ∙ ap (λ (s : PlainState). length (live_lots s.lots)) c.self.view_is
