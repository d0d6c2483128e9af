-- Lots without their parts, as a history keeps them: they are found by their ids as the lots are.
use Rattle.std.proofs.Common.{◌≡◌, ℕ, ◌<◌, Bool, true, List, [], map, length, get_or, Option, Some, None, slice_get, refl, sym, ap, ◌∙◌, subst}
use Rattle.std.specs.Prelude.{IsTrue, option_map}
use Rattle.std.proofs.lemmas.List.{length-map}
use Rattle.std.proofs.lemmas.Option.{slice_get-map, slice_get_read}
use Rattle.rp_algebra.proofs.Lists.{get_some, images_twice}
use Rattle.rp_geometry.specs.sets.Shape.{Part}
use Rattle.rp_language.specs.Name.{Label}
use Rattle.rp_model.specs.states.State.{Lot, is_live, live_lots, live_lot, lot_with_id, ids_of, bare_lot, parts_of_lot}
use Rattle.rp_model.specs.states.Sound.{are_distinct}
use Rattle.rp_states.proofs.Picked.{pick}
use Rattle.rp_states.proofs.Labels.{label_is}
use Rattle.rp_states.proofs.Plain.{kept_images, found_content, live_content}
use Rattle.rp_history.specs.declared.lot.LotLine.{LotLine}
use Rattle.rp_history.specs.Lots.{lot_of}
use Rattle.rp_history.proofs.Found.{found_has_id, found_is_live, picked_lot, if_passed, own_place}

module _ {S : Type 0} where
  -- they have the ids of the lots
  pub bare_ids : (ls : List (Lot S)) → ids_of (map bare_lot ls) ≡ ids_of ls
  bare_ids ls = images_twice bare_lot (λ (l : Lot S). l.id) ls

  -- live lots without their parts
  pub bare_live : (ls : List (Lot S)) → live_lots (map bare_lot ls) ≡ map bare_lot (live_lots ls)
  bare_live ls = kept_images bare_lot is_live ls

  -- a live lot is found without its parts
  pub bare_live_found : (x : Label) (ls : List (Lot S)) → live_lot x (map bare_lot ls) ≡ option_map bare_lot (live_lot x ls)
  bare_live_found = live_content (λ l. l.set) (λ l. [])

  -- what is found without its parts is there with them
  mapped_back : (o : Option (Lot S)) (l : Lot S) → option_map bare_lot o ≡ Some (bare_lot l) → (k : Lot S) × (o ≡ Some k) × (bare_lot k ≡ bare_lot l)
  mapped_back None l e = absurd (cc)
  mapped_back (Some k) l e = let f : bare_lot k ≡ bare_lot l = cc in (k, refl, f)

-- no lot without its parts, and so none with them
none_mapped : {A B : Type 0} (f : A → B) (o : Option A) → None ≡ option_map f o → o ≡ None
none_mapped f None e = refl
none_mapped f (Some x) e = absurd (cc)

-- the ids of a history are those of its lots
pub history_ids : (lots history : List (Lot (Unit {0}))) → history ≡ map bare_lot lots → ids_of history ≡ ids_of lots
history_ids lots history e = ap ids_of e ∙ bare_ids lots

-- no live lot
pub none_live_here : (x : Label) (lots history : List (Lot (Unit {0}))) → history ≡ map bare_lot lots → None ≡ live_lot x history → live_lot x lots ≡ None
none_live_here x lots history e f = none_mapped bare_lot (live_lot x lots) (f ∙ ap (live_lot x) e ∙ bare_live_found x lots)

-- no lot
pub none_here : (x : Label) (lots history : List (Lot (Unit {0}))) → history ≡ map bare_lot lots → None ≡ lot_with_id x history → lot_with_id x lots ≡ None
none_here x lots history e f = none_mapped bare_lot (lot_with_id x lots) (f ∙ ap (lot_with_id x) e ∙ found_content (λ l. l.set) (λ l. []) x lots)

-- a place within the history is one within the lots
pub within_lots : (lots history : List (Lot (Unit {0}))) → history ≡ map bare_lot lots → (k : ℕ) → k < length history → k < length lots
within_lots lots history e k h = subst (λ (n : ℕ). k < n) (ap length e ∙ length-map lots bare_lot) h

-- the live lot at its place in the history is the one of the lots
pub live_here : (x : Label) (lots history : List (Lot (Unit {0}))) → IsTrue (are_distinct (ids_of lots)) → history ≡ map bare_lot lots → (k : ℕ) → k < length lots → slice_get history k ≡ live_lot x history → slice_get lots k ≡ live_lot x lots
live_here x lots history d e k within same =
    let item = get_some lots k within in
    let l = item.0 in
    let bare : option_map bare_lot (live_lot x lots) ≡ Some (bare_lot l) =
    sym (bare_live_found x lots) ∙ sym (ap (live_lot x) e) ∙ sym same ∙ ap (λ (ls : List (Lot (Unit {0}))). slice_get ls k) e ∙ slice_get-map bare_lot lots k ∙ ap (option_map bare_lot) item.1 in
    let back = mapped_back (live_lot x lots) l bare in
    let own : x ≡ l.id = label_is x back.0.id (found_has_id x (live_lots lots) back.0 back.1) ∙ ap (λ (m : Lot (Unit {0})). m.id) back.2 in
    let live : is_live l ≡ true = sym (ap (λ (m : Lot (Unit {0})). is_live m) back.2) ∙ found_is_live x lots back.0 back.1 in
    let found : lot_with_id x lots ≡ Some l = ap (λ (y : Label). lot_with_id y lots) own ∙ own_place lots d k l item.1 in
    item.1 ∙ sym (picked_lot is_live x lots d ∙ ap (if_passed is_live) found ∙ ap (λ (b : Bool). pick b (Some l) None) live)

-- and its parts are those of its place
pub live_parts_at : (x : Label) (lots history : List (Lot (Unit {0}))) → IsTrue (are_distinct (ids_of lots)) → history ≡ map bare_lot lots → (k : ℕ) (ps : List Part) → k < length lots → slice_get history k ≡ live_lot x history → option_map (λ l. l.parts) (slice_get lots k) ≡ Some ps → Some ps ≡ parts_of_lot (live_lot x lots)
live_parts_at x lots history d e k ps within same at = sym at ∙ ap (option_map (λ (l : Lot (Unit {0})). l.parts)) (live_here x lots history d e k within same) ∙ as_parts (live_lot x lots)
  where
    as_parts : (o : Option (Lot (Unit {0}))) → option_map (λ (l : Lot (Unit {0})). l.parts) o ≡ parts_of_lot o
    as_parts None = refl
    as_parts (Some l) = refl

-- the line of a lot at its place
pub line_at : (lots history : List (Lot (Unit {0}))) (lines : List LotLine) → history ≡ map bare_lot lots → map lot_of lines ≡ history → (k : ℕ) (line : LotLine) → k < length lots → line ≡ get_or lines k line → (l : Lot (Unit {0})) × (slice_get lots k ≡ Some l) × (bare_lot l ≡ lot_of line)
line_at lots history lines e f k line within is =
    let item = get_some lots k within in
    let many : length lots ≡ length lines = sym (length-map lots bare_lot) ∙ sym (ap length e) ∙ sym (ap length f) ∙ length-map lines lot_of in
    let at : Some (bare_lot item.0) ≡ Some (lot_of line) =
    sym (ap (option_map bare_lot) item.1) ∙ sym (slice_get-map bare_lot lots k) ∙ ap (λ (ls : List (Lot (Unit {0}))). slice_get ls k) (sym e ∙ sym f) ∙ slice_get-map lot_of lines k ∙ ap (option_map lot_of) (slice_get_read lines (length lots) k line many within is) in
    (item.0, item.1, some_same at)
  where
    some_same : {A : Type 0} {x y : A} → Some x ≡ Some y → x ≡ y
    some_same h = cc
