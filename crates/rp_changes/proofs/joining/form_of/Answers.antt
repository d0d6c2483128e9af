use Rattle.std.proofs.Common.{List, ap, sym, ◌∙◌, subst}
use Rattle.std.specs.Prelude.{IsTrue, option_copied, option_map}
use Rattle.rp_language.specs.Name.{Label}
use Rattle.rp_model.specs.states.Sound.{are_distinct}
use Rattle.rp_model.specs.states.State.{parts_of_lot}
use Rattle.rp_history.proofs.Bare.{history_ids, none_live_here, live_parts_at, within_lots}
use Rattle.rp_changes.proofs.joining.form_of.Goals as goal

pub returns-in_err-place : goal.returns-in_err-place
returns-in_err-place g c =
    let lots = (g.K.Keeper.state c.args.keeper.now).lots in
    ap (λ o. option_map g.T.Oracle.parts_of (option_copied o)) c.from_residual.ensures ∙ sym (ap parts_of_lot (none_live_here c.args.id.now lots c.history.result.now c.history.ensures.value c.in_err-place.ensures.lot))

pub form_at-requires : goal.form_at-requires
form_at-requires g c = within_lots (g.K.Keeper.state c.args.keeper.now).lots c.history.result.now c.history.ensures.value c.in_ok-place.place c.in_ok-place.ensures.within

pub returns : goal.returns
returns g c =
    let lots = (g.K.Keeper.state c.args.keeper.now).lots in
    let within = within_lots lots c.history.result.now c.history.ensures.value c.in_ok-place.place c.in_ok-place.ensures.within in
    let distinct = subst (λ (xs : List Label). IsTrue (are_distinct xs)) (history_ids lots c.history.result.now c.history.ensures.value) c.in_ok-place.ensures.distinct in
    live_parts_at c.args.id.now lots c.history.result.now distinct c.history.ensures.value c.in_ok-place.place (g.T.Oracle.parts_of c.form_at.result.now) within c.in_ok-place.ensures.lot c.form_at.ensures
