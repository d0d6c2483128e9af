-- The items of a list of lots, at their places.
use Rattle.std.proofs.Common.{◌≡◌, ℕ, ◌+◌, ◌<◌, Bool, false, ◌||◌, if◌then◌else◌, List, [], ◌∷◌, ◌++◌, map, length, get_or, Some, None, slice_get, slice_set, refl, sym, ap, ◌∙◌, subst, arith}
use Rattle.std.specs.Prelude.{IsTrue, option_map, remove}
use Rattle.std.specs.List.{list_any}
use Rattle.std.proofs.lemmas.List.{length-map, map-append, map-set}
use Rattle.std.proofs.lemmas.Option.{slice_get_read, slice_get-map}
use Rattle.indexmap.specs.IndexSet.{insert_key}
use Rattle.rp_language.specs.Name.{Label, label_eq, is_among}
use Rattle.rp_model.specs.states.State.{Lot, is_live, live_lot, lot_with_id, ids_of, ended_at}
use Rattle.rp_model.specs.states.Sound.{are_distinct}
use Rattle.rp_states.proofs.Picked.{pick}
use Rattle.rp_states.proofs.Labels.{distinct_together}
use Rattle.rp_history.specs.declared.lot.LotLine.{LotLine}
use Rattle.rp_history.specs.Lots.{lot_of}
use Rattle.rp_history.specs.Kept.{Roomy, AreIdsOf}
use Rattle.rp_history.proofs.Found.{live_at_place}
use Rattle.rp_history.specs.Places.{live_places, AreWithout}
use Rattle.rp_history.proofs.Places.{one_gone}
use Rattle.rp_history.proofs.Ended.{ended_there}

-- an item at its place, as a lot
pub lot_at : (items : List LotLine) (lots : List (Lot (Unit {0}))) → map lot_of items ≡ lots → (k : ℕ) (item : LotLine) → k < length lots → item ≡ get_or items k item → slice_get lots k ≡ Some (lot_of item)
lot_at items lots seen k item h e =
    sym (ap (λ (ls : List (Lot (Unit {0}))). slice_get ls k) seen)
    ∙ slice_get-map lot_of items k
    ∙ ap (option_map lot_of) (slice_get_read items (length lots) k item (sym (ap length seen) ∙ length-map items lot_of) h e)

-- the item of a place is the live lot with the id, if it is live
pub live_at_item : (items : List LotLine) (lots : List (Lot (Unit {0}))) (keys : List Label) → AreIdsOf (map lot_of items) keys → {spare m : ℕ} → ◌≡◌ {A = Roomy} (record { lots = map lot_of items; spare = spare }) (record { lots = lots; spare = m }) →
    (x : Label) (k : ℕ) (item : LotLine) → k < length lots → item ≡ get_or items k item → slice_get lots k ≡ lot_with_id x lots → (slice_get lots k ≡ Some (lot_of item)) × (live_lot x lots ≡ pick (is_live (lot_of item)) (Some (lot_of item)) None)
live_at_item items lots keys ids view x k item h e same =
    let seen = ap (λ (v : Roomy). v.lots) view in
    let at = lot_at items lots seen k item h e in
    (at, live_at_place x lots (subst (λ (ls : List (Lot (Unit {0}))). IsTrue (are_distinct (ids_of ls))) seen ids.distinct) k (lot_of item) at same)

-- the item of a place ends there
pub end_at_item : (items : List LotLine) (lots : List (Lot (Unit {0}))) (keys : List Label) → AreIdsOf (map lot_of items) keys → map lot_of items ≡ lots → (n : ℕ) (x : Label) (k : ℕ) (item : LotLine) → k < length lots → item ≡ get_or items k item → slice_get lots k ≡ live_lot x lots →
    map lot_of (slice_set items k (record item { ended = Some n })) ≡ map (ended_at n (x ∷ [])) lots
end_at_item items lots keys ids seen n x k item h e same =
    map-set lot_of items k (record item { ended = Some n })
    ∙ ap (λ (ls : List (Lot (Unit {0}))). slice_set ls k (lot_of (record item { ended = Some n }))) seen
    ∙ ended_there n x lots (subst (λ (ls : List (Lot (Unit {0}))). IsTrue (are_distinct (ids_of ls))) seen ids.distinct) k (lot_of item) (lot_at items lots seen k item h e) same

-- its place is no longer one of a live lot
pub end_place : (items : List LotLine) (lots : List (Lot (Unit {0}))) → map lot_of items ≡ lots → (ks js : List ℕ) → ks ≡ live_places None 0 (map lot_of items) → (n k : ℕ) (item : LotLine) → k < length lots → item ≡ get_or items k item → AreWithout ks js k →
    js ≡ live_places None 0 (map lot_of (slice_set items k (record item { ended = Some n })))
end_place items lots seen ks js is n k item h e gone =
    let at = lot_at items (map lot_of items) refl k item (subst (λ (ls : List (Lot (Unit {0}))). k < length ls) (sym seen) h) e in
    let i = gone.one.number in
    let same : k ≡ 0 + k = omega arith in
    gone.rest
    ∙ ap (λ (xs : List ℕ). remove xs i) is
    ∙ one_gone n 0 (map lot_of items) k (lot_of item) i at (subst (λ (xs : List ℕ). i < length xs) is gone.one.below) (ap (λ (xs : List ℕ). get_or xs i 0) (sym is) ∙ gone.one.is ∙ same)
    ∙ ap (live_places None 0) (sym (map-set lot_of items k (record item { ended = Some n })))

-- lots that have the ids of others have their keys
pub same_ids : (ls ms : List (Lot (Unit {0}))) (keys : List Label) → ids_of ms ≡ ids_of ls → AreIdsOf ls keys → AreIdsOf ms keys
same_ids ls ms keys e h = record { same = h.same ∙ sym e; distinct = subst (λ (xs : List Label). IsTrue (are_distinct xs)) (sym e) h.distinct }

-- a key is found where the id is there
pub key_found : (x : Label) (keys : List Label) → list_any (label_eq x) keys ≡ is_among x keys
key_found x [] = refl
key_found x (y ∷ keys) = ap (λ (b : Bool). label_eq x y || b) (key_found x keys)

-- a new id comes last
pub with_new_id : (ls : List (Lot (Unit {0}))) (keys : List Label) (l : Lot (Unit {0})) → AreIdsOf ls keys → is_among l.id (ids_of ls) ≡ false → AreIdsOf (ls ++ l ∷ []) (insert_key label_eq keys l.id)
with_new_id ls keys l h new =
    let ids = map-append (λ (m : Lot (Unit {0})). m.id) ls (l ∷ []) in
    record {
      same = ap (λ (b : Bool). if b then keys else keys ++ l.id ∷ []) (key_found l.id keys ∙ ap (is_among l.id) h.same ∙ new) ∙ ap (λ (xs : List Label). xs ++ l.id ∷ []) h.same ∙ sym ids;
      distinct = subst (λ (xs : List Label). IsTrue (are_distinct xs)) (sym ids) (distinct_together (ids_of ls) (l.id ∷ []) h.distinct refl (new, tt));
    }
