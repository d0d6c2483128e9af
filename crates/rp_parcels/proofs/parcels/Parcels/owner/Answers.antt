use Rattle.std.proofs.Common.{List, filter, ap, sym, ◌∙◌, subst}
use Rattle.rp_model.specs.states.State.{Lot, lots_of_layer}
use Rattle.rp_model.specs.commands.At.{owner_line}
use Rattle.rp_proximity.specs.There.{is_there, BoxesHold}
use Rattle.rp_lotindex.proofs.Owned.{kept_boxes_hold}
use Rattle.rp_parcels.proofs.parcels.Parcels.owner.Goals as goal

pub owner-requires-after_bounds : goal.owner-requires-after_bounds
owner-requires-after_bounds c κs = subst (λ (ls : List (Lot (Unit {0}))). BoxesHold ls) (sym c.lots.ensures.value) (kept_boxes_hold c.args.self.now c.lots.ensures.sound.lots_keep_parts)

pub returns-clause-row : goal.returns-clause-row
returns-clause-row c = c.owner.ensures ∙ ap (λ (ls : List (Lot (Unit {0}))). owner_line (lots_of_layer c.args.layer.now (filter (is_there c.args.moment) ls)) c.args.p.now) c.lots.ensures.value
