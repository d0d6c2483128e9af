use Rattle.std.proofs.Common.{ℕ, List, ◌∷◌, [], ◌∙◌, None, map, ap, sym, subst, slice_get}
use Rattle.std.specs.Option.{option_and_then}
use Rattle.rp_model.specs.states.State.{ids_of}
use Rattle.rp_states.proofs.Replaced.{ended_ids}
use Rattle.rp_history.specs.Lots.{lot_of}
use Rattle.rp_history.specs.Kept.{Roomy}
use Rattle.rp_history.proofs.Ended.{none_ends}
use Rattle.rp_history.specs.Places.{live_places, AreRising, IsOneOf}
use Rattle.rp_history.proofs.Places.{all_rise, live_found}
use Rattle.rp_history.proofs.Placed.{end_at_item, end_place, same_ids}
use Rattle.rp_history.proofs.list.LotList.end.Goals as goal

pub take_out-requires-clause-rising : goal.take_out-requires-clause-rising
take_out-requires-clause-rising c = subst AreRising (sym c.self.invariant.places) (all_rise (map lot_of c.self.inside.lots.items) None)

pub take_out-requires-clause-there : goal.take_out-requires-clause-there
take_out-requires-clause-there c =
    let seen = ap (λ (v : Roomy). v.lots) c.self.view_is in
    subst (λ (ks : List ℕ). IsOneOf ks c.in-Some.place) (sym (c.self.invariant.places ∙ ap (live_places None 0) seen)) (live_found c.args.id.now c.args.self.now.lots c.in-Some.place c.in-Some.ensures.within c.in-Some.ensures.lot)

pub invariant_of-self : goal.invariant_of-self
invariant_of-self c =
    let seen = ap (λ (v : Roomy). v.lots) c.self.view_is in
    let lots = c.args.self.now.lots in
    let items = c.self.inside.lots.items in
    let item = c.index_mut.result.now in
    let k = c.in-Some.place in
    let after = end_at_item items lots c.self.inside.places.keys c.self.invariant.ids seen c.args.line c.args.id.now k item c.in-Some.ensures.within c.index_mut.ensures.value c.in-Some.ensures.lot in
    record {
      ids = same_ids (map lot_of items) _ c.self.inside.places.keys (ap ids_of after ∙ ended_ids c.args.line (c.args.id.now ∷ []) lots ∙ sym (ap ids_of seen)) c.self.invariant.ids;
      places = end_place items lots seen c.self.inside.live.items c.take_out.new.places.items c.self.invariant.places c.args.line k item c.in-Some.ensures.within c.index_mut.ensures.value c.take_out.ensures.rest;
    }

pub returns-in-Some-clause-lots : goal.returns-in-Some-clause-lots
returns-in-Some-clause-lots c =
    end_at_item c.self.inside.lots.items c.args.self.now.lots c.self.inside.places.keys c.self.invariant.ids (ap (λ (v : Roomy). v.lots) c.self.view_is) c.args.line c.args.id.now c.in-Some.place c.index_mut.result.now c.in-Some.ensures.within c.index_mut.ensures.value c.in-Some.ensures.lot

pub returns-in_default-clause-lots : goal.returns-in_default-clause-lots
returns-in_default-clause-lots c =
    sym (none_ends c.args.line c.args.id.now c.args.self.now.lots (sym c.live_place.ensures.lot ∙ ap (option_and_then (λ (k : ℕ). slice_get c.args.self.now.lots k)) c.in_default.is))
