use Rattle.std.proofs.Common.{rules, Bool, List, ℕ, [], ◌∷◌, ◌++◌, cond, take, filter, length, get_or, None, refl, ap, sym, ◌∙◌, subst, append-nil, arith}
use Rattle.std.proofs.lemmas.List.{length-map, take_all}
use Rattle.std.proofs.lemmas.List.Elements.{filter_more}
use Rattle.rp_history.specs.declared.lot.LotLine.{LotLine}
use Rattle.rp_history.specs.Lots.{lot_of}
use Rattle.rp_history.specs.Places.{is_asked}
use Rattle.rp_history.proofs.Placed.{lot_at}
use Rattle.rp_history.proofs.Places.{places_below, places_few}
use Rattle.rp_proximity.specs.Near.{AreWithin}
use Rattle.rp_proximity.proofs.Places.{place_within}
use Rattle.rp_contacts.proofs.Paired.{is_asked_at, asked_line, asked_there}
use Rattle.rp_contacts.proofs.behind.live_places.Goals as goal
use Rattle.rp_contacts.proofs.behind.live_places.Goals.{then-is_asked+in_ok-push, else-is_asked}

pub bounds-lots-place : goal.bounds-lots-place
bounds-lots-place c =
    let history = c.args.history.now in
    let live = c.live-place-items.result.now in
    let all = subst (AreWithin history) (sym c.live-place-items.ensures) (places_below (length history) None 0 history (omega arith)) in
    let within = place_within history live all c.loop-place.place-index (get_or live c.loop-place.place-index 0) c.loop-place-test.true refl in
    let many = length-map c.lots-lots.result.now lot_of in
    let same = ap length c.lots-lots.ensures.value in
    omega (arith, within, many, same)

pub offset_bounds-lots-place : goal.offset_bounds-lots-place
offset_bounds-lots-place c = search (rules, bounds-lots-place c)

pub loop-place-preserved : goal.loop-place-preserved
loop-place-preserved c =
    let history = c.args.history.now in
    let test = is_asked_at c.args.layer history in
    let live = c.live-place-items.result.now in
    let i = c.loop-place.place-index in
    let k = get_or live i 0 in
    let here = c.loop-place-test.true in
    let all = subst (AreWithin history) (sym c.live-place-items.ensures) (places_below (length history) None 0 history (omega arith)) in
    let at = lot_at c.lots-lots.result.now history c.lots-lots.ensures.value k c.index-lots-place.result (place_within history live all i k here refl) c.index-lots-place.is in
    let tested = asked_line c.args.layer history k (lot_of c.index-lots-place.result) at in
    let asked = c.is_asked.ensures ∙ ap (λ (line : LotLine). is_asked c.args.layer line.layer) (sym c.index-lots-place.is) in
    let more = filter_more test live i 0 here in
    elim c.if-is_asked.branch [
      | then-is_asked+in_ok-push w ↦
          ap (λ v. v.items) w.places-is ∙ w.in_ok-push.ensures.items ∙ ap (λ (ks : List ℕ). ks ++ k ∷ []) c.loop-place.invariant
          ∙ ap (λ (b : Bool). filter test (take i live) ++ cond b (k ∷ []) []) (sym w.if-is_asked.true ∙ asked ∙ sym tested) ∙ sym more
      | else-is_asked w ↦
          ap (λ v. v.items) w.places-is ∙ c.loop-place.invariant ∙ sym (append-nil (filter test (take i live)))
          ∙ ap (λ (b : Bool). filter test (take i live) ++ cond b (k ∷ []) []) (sym w.if-is_asked.false ∙ asked ∙ sym tested) ∙ sym more
    ]

pub returns-clause-places : goal.returns-clause-places
returns-clause-places c =
    let history = c.args.history.now in
    let live = c.live-place-items.result.now in
    c.loop-place.invariant
    ∙ ap (filter (is_asked_at c.args.layer history)) (take_all c.loop-place.place-index live c.loop-place-test.false ∙ c.live-place-items.ensures)
    ∙ asked_there history c.args.layer 0 history refl

pub returns-clause-few : goal.returns-clause-few
returns-clause-few c =
    let history = c.args.history.now in
    let live = c.live-place-items.result.now in
    let same = ap length
    (c.loop-place.invariant
    ∙ ap (filter (is_asked_at c.args.layer history)) (take_all c.loop-place.place-index live c.loop-place-test.false ∙ c.live-place-items.ensures)
    ∙ asked_there history c.args.layer 0 history refl) in
    let few = places_few c.args.layer 0 history in
    omega (arith, same, few)
