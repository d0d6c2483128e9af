use Rattle.std.proofs.Common.{ap, sym, ◌∙◌}
use Rattle.std.specs.Prelude.{option_copied, option_map}
use Rattle.rp_model.specs.states.State.{parts_of_lot}
use Rattle.rp_history.proofs.Bare.{none_live_here, live_parts_at, within_lots}
use Rattle.rp_store.proofs.lots.Lots.find.Goals as goal

pub returns-in_err-place : goal.returns-in_err-place
returns-in_err-place g c = ap (λ o. option_map g.F.Forms.parts_of (option_copied o)) c.from_residual.ensures ∙ sym (ap parts_of_lot (none_live_here c.args.id.now c.args.self.now c.history.result.now c.history.ensures.value c.in_err-place.ensures.lot))

pub returns : goal.returns
returns g c =
    let within = within_lots c.args.self.now c.history.result.now c.history.ensures.value c.in_ok-place.place c.in_ok-place.ensures.within in
    live_parts_at c.args.id.now c.args.self.now c.history.result.now c.history.ensures.distinct c.history.ensures.value c.in_ok-place.place (g.F.Forms.parts_of c.form_at.result.now) within c.in_ok-place.ensures.lot c.form_at.ensures
