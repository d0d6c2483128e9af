use Rattle.std.proofs.Common.{◌+◌, List, [], map, sym, ap₂, ◌∙◌, subst}
use Rattle.std.proofs.lemmas.List.{map-id}
use Rattle.rp_geometry.specs.sets.Shape.{Part}
use Rattle.rp_model.specs.states.State.{Lot, lots_replaced}
use Rattle.rp_history.specs.Lots.{lots_in, lots_after, AreBornBefore, AreNew}
use Rattle.rp_history.specs.Parts.{new_lots}
use Rattle.rp_store.specs.Kept.{AreFew}
use Rattle.rp_parcels.specs.Kept.{AreSound}
use Rattle.rp_parcels.specs.Register.{IsLater}
use Rattle.rp_register_state.proofs.Applied.{later_births}
use Rattle.rp_parcels.proofs.Sizes.{sound_few}
use Rattle.rp_parcels.proofs.Later.{later_after}
use Rattle.rp_parcels.proofs.parcels.Parcels.replace.Goals as goal

pub replace-requires-clause-later : goal.replace-requires-clause-later
replace-requires-clause-later c = subst (AreBornBefore c.args.line) (sym c.self.view_is) (later_births c.args.line (lots_in [] c.args.self.now) c.requires.later)

pub replace-requires-clause-new : goal.replace-requires-clause-new
replace-requires-clause-new c =
    subst (λ (ls : List (Lot (Unit {0}))). AreNew ls (new_lots c.args.births.now (map (λ r. r) c.args.regions.items))) (sym c.self.view_is)
    (subst (λ (lists : List (List Part)). AreNew c.args.self.now (new_lots c.args.births.now lists)) (sym (map-id c.args.regions.items)) c.requires.fit.fresh)

pub replace-requires-clause-few : goal.replace-requires-clause-few
replace-requires-clause-few c =
    let after = λ (ls : List (Lot (Unit {0}))) (lists : List (List Part)). lots_after c.args.line ls (lots_replaced c.args.ends.now (new_lots c.args.births.now lists)) in
    subst AreFew (sym (ap₂ after c.self.view_is (map-id c.args.regions.items))) (sound_few (after c.args.self.now c.args.regions.items) c.requires.fit.sound)

pub returns-clause-ok : goal.returns-clause-ok
returns-clause-ok c = c.in_ok-replace.ensures.ok ∙ ap₂ (λ (ls : List (Lot (Unit {0}))) (lists : List (List Part)). lots_after c.args.line ls (lots_replaced c.args.ends.now (new_lots c.args.births.now lists))) c.self.view_is (map-id c.args.regions.items)

pub returns-clause-sound : goal.returns-clause-sound
returns-clause-sound c = subst AreSound (sym (returns-clause-ok c)) c.requires.fit.sound

pub returns-clause-later : goal.returns-clause-later
returns-clause-later c = subst (IsLater (c.args.line + 1)) (sym (returns-clause-ok c)) (later_after c.args.line c.args.self.now c.args.ends.now (new_lots c.args.births.now c.args.regions.items) c.requires.later)
