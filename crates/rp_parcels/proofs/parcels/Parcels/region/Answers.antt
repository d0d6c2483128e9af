use Rattle.std.proofs.Common.{List, ap, sym, ◌∙◌}
use Rattle.std.specs.Prelude.{option_copied}
use Rattle.std.proofs.lemmas.Iterator.Adapters.{option_map_id}
use Rattle.rp_model.specs.states.State.{Lot, live_lot, parts_of_lot}
use Rattle.rp_parcels.proofs.parcels.Parcels.region.Goals as goal

pub returns : goal.returns
returns c = sym (option_map_id (option_copied c.find.result)) ∙ c.find.ensures ∙ ap (λ (ls : List (Lot (Unit {0}))). parts_of_lot (live_lot c.args.id ls)) c.self.view_is
