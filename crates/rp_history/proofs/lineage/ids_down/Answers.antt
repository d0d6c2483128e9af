use Rattle.std.proofs.Common.{ℕ, List, [], ◌∷◌, ◌++◌, length, sym, ap, subst, arith}
use Rattle.std.proofs.lemmas.List.{length-map}
use Rattle.rp_language.specs.Name.{Label}
use Rattle.rp_history.specs.Lots.{lot_of}
use Rattle.rp_history.specs.Pending.{AddsPlaces}
use Rattle.rp_history.proofs.Placed.{lot_at}
use Rattle.rp_history.proofs.Descended.{AreWanted, all_less, none_pending, pending_within, next_wanted, first_wanted, all_found, ends_sooner}
use Rattle.rp_history.proofs.lineage.ids_down.Goals as goal

pub loop-place-init : goal.loop-place-init
loop-place-init c =
    let lots = c.args.history.now in (
      length lots,
      subst (AreWanted c.args.id.now lots (length lots) c.add_place.new.places.keys) (sym c.new-ids.ensures.items)
          (first_wanted c.args.id.now lots c.add_place.new.places.keys (subst (λ (ks : List ℕ). AddsPlaces (c.args.id.now ∷ []) lots ks c.add_place.new.places.keys) c.new-pending.ensures.empty c.in_ok-add_place.ensures)),
    )

pub bounds-lots-place : goal.bounds-lots-place
bounds-lots-place c =
    let lots = c.args.history.now in
    let within = pending_within c.args.id.now lots c.loop-place.invariant.0 c.pop_last.new.self.keys c.loop-place.pending.keys c.in-Some.place c.loop-place.ids.items c.loop-place.invariant.1 c.in-Some.ensures.removal in
    let many = length-map c.lots-lots.result.now lot_of in
    let same = ap length c.lots-lots.ensures.value in
    omega (arith, within, many, same)

pub loop-place-preserved : goal.loop-place-preserved
loop-place-preserved c =
    let lots = c.args.history.now in
    let q = c.in-Some.place in
    let l = c.index-lots-place.result in
    let low = all_less q c.pop_last.new.self.keys c.in-Some.ensures.all_below in
    let within = pending_within c.args.id.now lots c.loop-place.invariant.0 c.pop_last.new.self.keys c.loop-place.pending.keys q c.loop-place.ids.items c.loop-place.invariant.1 c.in-Some.ensures.removal in
    let at = lot_at c.lots-lots.result.now lots c.lots-lots.ensures.value q l within c.index-lots-place.is in (
      q,
      subst (AreWanted c.args.id.now lots q c.add_places.new.places.keys) (sym c.in_ok-push.ensures.items)
          (next_wanted c.args.id.now lots c.loop-place.invariant.0 q (lot_of l) c.loop-place.pending.keys c.pop_last.new.self.keys c.add_places.new.places.keys c.loop-place.ids.items c.lots-lots.ensures.well.distinct c.lots-lots.ensures.well.origins_before at c.loop-place.invariant.1 c.in-Some.ensures.removal low
          (subst (λ (xs : List Label). AddsPlaces xs lots c.pop_last.new.self.keys c.add_places.new.places.keys) c.items.ensures c.in_ok-add_places.ensures)),
    )

pub loop-place-smaller : goal.loop-place-smaller
loop-place-smaller c =
    let lots = c.args.history.now in
    let q = c.in-Some.place in
    let l = c.index-lots-place.result in
    let low = all_less q c.pop_last.new.self.keys c.in-Some.ensures.all_below in
    let within = pending_within c.args.id.now lots c.loop-place.invariant.0 c.pop_last.new.self.keys c.loop-place.pending.keys q c.loop-place.ids.items c.loop-place.invariant.1 c.in-Some.ensures.removal in
    let at = lot_at c.lots-lots.result.now lots c.lots-lots.ensures.value q l within c.index-lots-place.is in
    let new = c.add_places.new.places.keys in
    let down = c.loop-place.ids.items in
    ends_sooner c.args.id.now lots q c.loop-place.pending.keys c.pop_last.new.self.keys new (down ++ l.id ∷ [])
    (next_wanted c.args.id.now lots c.loop-place.invariant.0 q (lot_of l) c.loop-place.pending.keys c.pop_last.new.self.keys new down c.lots-lots.ensures.well.distinct c.lots-lots.ensures.well.origins_before at c.loop-place.invariant.1 c.in-Some.ensures.removal low
    (subst (λ (xs : List Label). AddsPlaces xs lots c.pop_last.new.self.keys new) c.items.ensures c.in_ok-add_places.ensures)) c.in-Some.ensures.removal

pub returns : goal.returns
returns c =
    let lots = c.args.history.now in
    let none = none_pending c.loop-place.pending.keys (λ h. let no = c.in_default.ensures.variant.1 h in cc) in
    all_found c.args.id.now lots c.loop-place.invariant.0 c.loop-place.ids.items (subst (λ (ks : List ℕ). AreWanted c.args.id.now lots c.loop-place.invariant.0 ks c.loop-place.ids.items) none c.loop-place.invariant.1)
