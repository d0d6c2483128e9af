use Rattle.std.proofs.Common.{◌≡◌, ℕ, ◌+◌, List, ◌∷◌, ◌++◌, [], ◌∙◌, None, is_none, length, map, ap, ap₂, sym, subst, false, arith}
use Rattle.std.proofs.lemmas.List.{length-map, map-append}
use Rattle.indexmap.specs.IndexSet.{insert_key}
use Rattle.rp_language.specs.Name.{label_eq, is_among}
use Rattle.rp_model.specs.states.State.{Lot, ids_of}
use Rattle.rp_history.specs.Lots.{lot_of}
use Rattle.rp_history.specs.Places.{live_places}
use Rattle.rp_history.specs.Kept.{Roomy, AreIdsOf}
use Rattle.rp_history.proofs.Places.{one_more}
use Rattle.rp_history.proofs.Placed.{with_new_id}
use Rattle.rp_history.proofs.list.LotList.push.Goals as goal

pub invariant_of-self : goal.invariant_of-self
invariant_of-self c =
    let kept = rw c.unwrap.ensures at c.push.ensures.items in
    let keys = rw c.unwrap-2.ensures at c.insert.ensures.keys in
    let items = rw c.unwrap-3.ensures at c.push-2.ensures.items in
    let lots : List (Lot (Unit {0})) = map lot_of c.self.inside.lots.items in
    let l : Lot (Unit {0}) = lot_of c.args.lot in
    let more = ap (map lot_of) items ∙ map-append lot_of c.self.inside.lots.items (c.args.lot ∷ []) in
    let fresh : is_among c.args.lot.id (ids_of lots) ≡ false = subst (λ (ls : List (Lot (Unit {0}))). is_among c.args.lot.id (ids_of ls) ≡ false) (sym (ap (λ (v : Roomy). v.lots) c.self.view_is)) c.requires.fresh in
    let number : c.len.result ≡ length lots = let e = c.len.ensures in let ok = c.self.inside.lots.ok in let many = length-map c.self.inside.lots.items lot_of in omega (arith, e, ok, many) in
    let none_before : length lots ≡ 0 + length lots = omega arith in
    record {
      ids = subst (AreIdsOf (map lot_of c.push-2.new.self.items)) (sym keys)
          (subst (λ (ls : List (Lot (Unit {0}))). AreIdsOf ls (insert_key label_eq c.self.inside.places.keys c.args.lot.id)) (sym more) (with_new_id lots c.self.inside.places.keys l c.self.invariant.ids fresh));
      places = kept
          ∙ ap₂ (λ (ks : List ℕ) (n : ℕ). ks ++ n ∷ []) c.self.invariant.places (number ∙ none_before)
          ∙ sym (one_more 0 lots l (ap is_none c.requires.live))
          ∙ ap (live_places None 0) (sym more);
    }
