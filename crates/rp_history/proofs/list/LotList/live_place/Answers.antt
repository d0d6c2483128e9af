use Rattle.std.proofs.Common.{ℕ, Bool, true, false, Some, None, ap, ◌∙◌, sym, slice_get}
use Rattle.std.specs.Option.{option_and_then}
use Rattle.rp_states.proofs.Picked.{pick}
use Rattle.rp_history.specs.Lots.{lot_of}
use Rattle.rp_history.proofs.Found.{none_live, none_if_not_some}
use Rattle.rp_history.proofs.Placed.{live_at_item}
use Rattle.rp_history.proofs.list.LotList.live_place.Goals as goal

pub returns-in_err-place-clause-lot : goal.returns-in_err-place-clause-lot
returns-in_err-place-clause-lot c =
    ap (option_and_then (λ (k : ℕ). slice_get c.args.self.now.lots k)) c.from_residual.ensures
    ∙ sym (none_live c.args.id.now c.args.self.now.lots (sym c.in_err-place.ensures.lot))

pub returns-then-is_none-clause-lot : goal.returns-then-is_none-clause-lot
returns-then-is_none-clause-lot c =
    let item = live_at_item c.self.inside.lots.items c.args.self.now.lots c.self.inside.places.keys c.self.invariant.ids c.self.view_is c.args.id.now c.in_ok-place.place c.index.result.now c.in_ok-place.ensures.within c.index.ensures c.in_ok-place.ensures.lot in
    item.0 ∙ sym (item.1 ∙ ap (λ (b : Bool). pick b (Some (lot_of c.index.result.now)) None) (none_if_not_some c.index.result.now.ended true c.if-is_none.ensures))

pub returns-else-is_none-clause-lot : goal.returns-else-is_none-clause-lot
returns-else-is_none-clause-lot c =
    let item = live_at_item c.self.inside.lots.items c.args.self.now.lots c.self.inside.places.keys c.self.invariant.ids c.self.view_is c.args.id.now c.in_ok-place.place c.index.result.now c.in_ok-place.ensures.within c.index.ensures c.in_ok-place.ensures.lot in
    sym (item.1 ∙ ap (λ (b : Bool). pick b (Some (lot_of c.index.result.now)) None) (none_if_not_some c.index.result.now.ended false c.if-is_none.ensures))
