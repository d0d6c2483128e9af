use Rattle.std.proofs.Common.{◌∙◌, sym}
use Rattle.rp_model.specs.states.State.{is_alive_after}
use Rattle.rp_history.specs.Lots.{lot_of}
use Rattle.rp_history.proofs.Found.{picked_there, picked_not_there, not_there}
use Rattle.rp_history.proofs.Placed.{lot_at}
use Rattle.rp_history.proofs.history.History.alive.Goals as goal

pub returns-in-Some : goal.returns-in-Some
returns-in-Some c =
    let lots = c.args.self.now in
    let at = lot_at c.lots.result.now lots c.lots.ensures.value c.in-Some.place c.index-lots-place.result c.in-Some.ensures.within c.index-lots-place.is in
    c.is_alive_after.ensures ∙ sym (picked_there (is_alive_after c.args.line) c.args.id lots c.lots.ensures.well.distinct (lot_of c.index-lots-place.result) (sym c.in-Some.ensures.lot ∙ at))

pub returns-in-None : goal.returns-in-None
returns-in-None c =
    sym (picked_not_there (is_alive_after c.args.line) c.args.id c.args.self.now (not_there c.args.id c.args.self.now (sym c.in-None.ensures.lot)))
