use Rattle.std.proofs.Common.{◌∷◌, ◌++◌, [], List, take, sym, subst, ap, ◌∙◌}
use Rattle.std.proofs.lemmas.List.{take_more, take_all}
use Rattle.rp_language.specs.Name.{Label}
use Rattle.rp_history.specs.Pending.{AddsPlaces}
use Rattle.rp_history.proofs.Descended.{none_added, one_added}
use Rattle.rp_history.proofs.lineage.add_places.Goals as goal

pub loop-id-init : goal.loop-id-init
loop-id-init c = none_added c.args.history.now c.args.places.now.keys

pub loop-id-preserved : goal.loop-id-preserved
loop-id-preserved c =
    let ids = c.args.ids.now in
    let i = c.loop-id.id-index in
    let x = c.id-item.result in
    subst (λ (xs : List Label). AddsPlaces xs c.args.history.now c.args.places.now.keys c.add_place.new.places.keys) (sym (take_more ids i x c.loop-id-test.true ∙ ap (λ (y : Label). take i ids ++ y ∷ []) (sym c.id-item.is)))
    (one_added (take i ids) x c.args.history.now c.args.places.now.keys c.loop-id.places.keys c.add_place.new.places.keys c.loop-id.invariant c.in_ok-add_place.ensures)

pub returns : goal.returns
returns c = subst (λ (xs : List Label). AddsPlaces xs c.args.history.now c.args.places.now.keys c.loop-id.places.keys) (take_all c.loop-id.id-index c.args.ids.now c.loop-id-test.false) c.loop-id.invariant
