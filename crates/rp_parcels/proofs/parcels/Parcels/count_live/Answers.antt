use Rattle.std.proofs.Common.{List, length, ap, ◌∙◌}
use Rattle.rp_model.specs.states.State.{Lot, live_lots}
use Rattle.rp_parcels.proofs.Sizes.{live_bare}
use Rattle.rp_parcels.proofs.parcels.Parcels.count_live.Goals as goal

pub returns : goal.returns
returns c = c.live_count.ensures.value ∙ ap (λ (ls : List (Lot (Unit {0}))). length (live_lots ls)) c.history.ensures.value ∙ live_bare c.args.self.now
