-- The indexes of a register, at rest and through a change.
use Rattle.std.proofs.Common.{◌≡◌, ℕ, ◌+◌, ◌-◌, ◌*◌, ◌/◌, ◌%◌, ◌<◌, ◌≤◌, Bool, true, false, ◌&&◌, cond, List, [], ◌∷◌, ◌++◌, ⊎_elim, map, length, Option, Some, None, is_none, is_some, slice_get, refl, sym, ap, ap₂, ◌∙◌, subst, arith}
use Rattle.std.specs.Prelude.{option_map}
use Rattle.std.specs.FinMap.{empty, entries, get-empty, len-empty, len-entries}
use Rattle.std.specs.Ordering.{nat_cmp}
use Rattle.std.proofs.lemmas.Bool.{cases_lt}
use Rattle.std.proofs.lemmas.List.{length-map, map-append}
use Rattle.std.proofs.lemmas.Option.{slice_get-map, slice_get_within}
use Rattle.rp_algebra.proofs.Listed.{Listed, place_of}
use Rattle.rp_algebra.proofs.Lists.{get_left, get_some, images_twice}
use Rattle.rp_geometry.specs.Geometry.{IntegerBox}
use Rattle.rp_geometry.specs.sets.Shape.{Part}
use Rattle.rp_space.specs.Boxes.{integer_box}
use Rattle.rp_language.specs.Name.{Label, label_eq, is_among}
use Rattle.rp_model.specs.states.State.{Lot, NewLot, is_live, bare_lot, ended_at, born_at, lots_replaced}
use Rattle.rp_states.proofs.Picked.{ended_yes, ended_no}
use Rattle.rp_history.specs.Lots.{lots_after}
use Rattle.rp_space.specs.declared.bounds.IntBox.{IntBox}
use Rattle.rp_boxindex.specs.Boxes.{Boxes, Entry}
use Rattle.rp_boxindex.specs.Meeting.{ids_that_meet, meeting_ids}
use Rattle.rp_boxindex.proofs.Known.{none_of}
use Rattle.rp_lotindex.specs.Indexed.{boxes_of_parts, boxes_of, box_at, box_in, box_among, box_by, boxes_of_lot, boxes_for, boxes_born, NoneBehind, ArePut, AreFree, AreBorn, AllStay, IsTakenOut, IsSettled, AreSettledAt, AreSettled, IsIndexAt, IsIndexOf, AreKeptIn}
use Rattle.rp_lotindex.specs.Cubes.{moved, moved_past}
use Rattle.rp_lotindex.specs.Stretches.{stretch_of}
use Rattle.rp_lotindex.proofs.Hulls.{few_boxes}
use Rattle.rp_lotindex.proofs.Put.{among_past, among_right}

-- ---- lists

-- where there is no item, the list has ended
past_if_none : {A : Type 0} (xs : List A) (k : ℕ) → slice_get xs k ≡ None → length xs ≤ k
past_if_none xs k e = ⊎_elim (λ f. absurd (let item = get_some xs k f in let g = item.1 in cc (e, g))) (λ f. f) (cases_lt k (length xs))

-- images are there where what they are of is
images_there : {A B : Type 0} (f : A → B) (xs : List A) (d : ℕ) → is_some (slice_get (map f xs) d) ≡ is_some (slice_get xs d)
images_there f xs d = ap is_some (slice_get-map f xs d) ∙ by (slice_get xs d)
  where
    by : (o : Option _) → is_some (option_map f o) ≡ is_some o
    by None = refl
    by (Some x) = refl

-- ---- an empty index

-- of no entries none meets a box
none_among : (closed : Bool) (b : IntegerBox) (es : List Entry) → length es ≡ 0 → ids_that_meet closed b es ≡ []
none_among closed b [] e = refl
none_among closed b (x ∷ es) e = absurd (omega (arith, e))

-- no box of an empty index meets one
pub none_meet : (closed : Bool) (b : IntegerBox) → meeting_ids closed b empty ≡ []
none_meet closed b = none_among closed b (entries (empty {X = IntBox} {R = nat_cmp})) (sym (len-entries (empty {X = IntBox} {R = nat_cmp})) ∙ len-empty nat_cmp IntBox)

-- ---- an index at rest

-- where there are no boxes, there are none behind any place
pub none_in_empty : (n : ℕ) → NoneBehind empty n
none_in_empty n id f = ap (option_map integer_box) (get-empty nat_cmp id)

-- taking out the boxes of a place of an empty index changes nothing
pub taken_empty : (old new : Boxes) (p : ℕ) → empty ≡ old → new ≡ old → IsTakenOut old new p
taken_empty old new p none stays = record {
  gone = λ id own. ap (λ (m : Boxes). box_at m id) (stays ∙ sym none) ∙ none_in_empty 0 id (omega arith);
  rest = λ id other. ap (λ (m : Boxes). box_at m id) stays;
}

-- and so does moving them
pub settled_empty : (old new : Boxes) (p : ℕ) (bs : List IntegerBox) → empty ≡ old → new ≡ old → IsSettled old new p bs
settled_empty old new p bs none stays = record {
  here = λ id own same.
      let nothing : box_at old id ≡ None = ap (λ (m : Boxes). box_at m id) (sym none) ∙ none_in_empty 0 id (omega arith) in
      ap (λ (m : Boxes). box_at m id) stays ∙ nothing ∙ sym (none_of (slice_get bs (id % 16)) (sym same ∙ ap is_some nothing));
  rest = λ id other. ap (λ (m : Boxes). box_at m id) stays;
}

-- no lots and no boxes
pub indexed_none : (index : Label → Boxes) → ((y : Label) → index y ≡ empty) → IsIndexOf {S = Unit {0}} [] index
indexed_none index none y id = ap (λ (m : Boxes). box_at m id) (none y) ∙ none_in_empty 0 id (omega arith)

-- no layer has a box at any place
pub free_none : (index : Label → Boxes) → ((y : Label) → index y ≡ empty) → (n : ℕ) → AreFree index n
free_none index none n y = subst (λ (m : Boxes). NoneBehind m n) (sym (none y)) (none_in_empty n)

-- the box of an id among those of lots
pub among_lots : (y : Label) (lots : List (Lot (Unit {0}))) (id : ℕ) (l : Lot (Unit {0})) → slice_get lots (id / 16) ≡ Some l → box_among (map (boxes_for y) lots) id ≡ slice_get (boxes_for y l) (id % 16)
among_lots y lots id l at = ap (λ (o : Option (List IntegerBox)). box_in o (id % 16)) (slice_get-map (boxes_for y) lots (id / 16) ∙ ap (option_map (boxes_for y)) at)

-- in the index of its layer a lot has all its boxes
own_boxes : (y : Label) (l : Lot (Unit {0})) → label_eq l.layer y ≡ true → boxes_for y l ≡ boxes_of_lot l
own_boxes y l own = ap (λ (b : Bool). cond b (boxes_of_lot l) []) own

module _ (y : Label) (lots : List (Lot (Unit {0}))) (boxes : Boxes) (h : IsIndexAt y lots boxes) where
  -- behind the lots there are no boxes
  pub none_behind_lots : NoneBehind boxes (length lots)
  none_behind_lots id f = h id ∙ among_past (map (boxes_for y) lots) id (let many = length-map lots (boxes_for y) in omega (arith, f, many))

  -- each box of a lot of the layer is under an id of its place
  pub lot_box : (k : ℕ) (l : Lot (Unit {0})) → slice_get lots k ≡ Some l → label_eq l.layer y ≡ true → (b : IntegerBox) → Listed b (boxes_of_lot l) → (id : ℕ) × (id / 16 ≡ k) × (box_at boxes id ≡ Some b)
  lot_box k l at layer b listed =
      let place = place_of b (boxes_of_lot l) listed in
      let within = slice_get_within (boxes_of_lot l) place.0 b place.1 in
      let many = length-map (boxes_of_parts l.parts) (box_by l) in
      let few = few_boxes l.parts in
      let id : ℕ = k * 16 + place.0 in
      let own : id / 16 ≡ k = omega (arith, within, many, few) in
      let number : id % 16 ≡ place.0 = omega (arith, within, many, few) in
      (id, own, h id ∙ among_lots y lots id l (ap (slice_get lots) own ∙ at) ∙ ap₂ slice_get (own_boxes y l layer) number ∙ place.1)

module _ (lots : List (Lot (Unit {0}))) (index : Label → Boxes) (h : IsIndexOf lots index) where
  -- after the lots no layer has a box
  pub free_after_lots : AreFree index (length lots)
  free_after_lots y = none_behind_lots y lots (index y) (h y)

  -- where every place has what it had, all is as before
  pub indexed_again : (new : Label → Boxes) → AllStay index new → IsIndexOf lots new
  indexed_again new s y id = s y id ∙ h y id

  -- the lots stand in a history without their parts, and their boxes in the index
  pub kept_in : (history : List (Lot (Unit {0}))) → history ≡ map bare_lot lots → AreKeptIn history index lots
  kept_in history e = record { bare = e; indexed = h }

-- a live lot has its boxes in the cube of live lots
pub live_boxes : (l : Lot (Unit {0})) → is_live l ≡ true → boxes_of_lot l ≡ boxes_of l.parts
live_boxes l live = by l.ended refl live
  where
    by : (o : Option ℕ) → l.ended ≡ o → is_none o ≡ true → boxes_of_lot l ≡ boxes_of l.parts
    by None e f = ap (λ (o : Option ℕ). map (λ b. elim o as (λ _. IntegerBox) [ None ↦ moved b | Some t ↦ moved_past (stretch_of l.born t) b ]) (boxes_of_parts l.parts)) e
    by (Some t) e f = absurd (cc)

-- ---- a change

-- a lot that ends keeps its id
ended_id : (n : ℕ) (ids : List Label) (l : Lot (Unit {0})) → (ended_at n ids l).id ≡ l.id
ended_id n ids l = by (is_live l && is_among l.id ids) refl
  where
    by : (b : Bool) → (is_live l && is_among l.id ids) ≡ b → (ended_at n ids l).id ≡ l.id
    by true e = ap (λ (m : Lot (Unit {0})). m.id) (ended_yes n ids l e)
    by false e = ap (λ (m : Lot (Unit {0})). m.id) (ended_no n ids l e)

-- one with another id stays as it is
other_stays : (n : ℕ) (ids : List Label) (l : Lot (Unit {0})) → is_among l.id ids ≡ false → ended_at n ids l ≡ l
other_stays n ids l e = ended_no n ids l (ap (λ (c : Bool). is_live l && c) e ∙ never (is_live l))
  where
    never : (b : Bool) → (b && false) ≡ false
    never true = refl
    never false = refl

-- and its layer
ended_layer : (n : ℕ) (ids : List Label) (l : Lot (Unit {0})) → (ended_at n ids l).layer ≡ l.layer
ended_layer n ids l = by (is_live l && is_among l.id ids) refl
  where
    by : (b : Bool) → (is_live l && is_among l.id ids) ≡ b → (ended_at n ids l).layer ≡ l.layer
    by true e = ap (λ (m : Lot (Unit {0})). m.layer) (ended_yes n ids l e)
    by false e = ap (λ (m : Lot (Unit {0})). m.layer) (ended_no n ids l e)

-- and its parts
ended_parts : (n : ℕ) (ids : List Label) (l : Lot (Unit {0})) → (ended_at n ids l).parts ≡ l.parts
ended_parts n ids l = by (is_live l && is_among l.id ids) refl
  where
    by : (b : Bool) → (is_live l && is_among l.id ids) ≡ b → (ended_at n ids l).parts ≡ l.parts
    by true e = ap (λ (m : Lot (Unit {0})). m.parts) (ended_yes n ids l e)
    by false e = ap (λ (m : Lot (Unit {0})). m.parts) (ended_no n ids l e)

-- a lot has a box in the index of a layer iff it is of the layer and has a box of the number
for_there : (y : Label) (l : Lot (Unit {0})) (d : ℕ) → is_some (slice_get (boxes_for y l) d) ≡ (label_eq l.layer y && is_some (slice_get (boxes_of_parts l.parts) d))
for_there y l d = by (label_eq l.layer y)
  where
    by : (b : Bool) → is_some (slice_get (cond b (boxes_of_lot l) []) d) ≡ (b && is_some (slice_get (boxes_of_parts l.parts) d))
    by true = images_there (box_by l) (boxes_of_parts l.parts) d
    by false = refl

-- so one that ends has as many boxes
ended_there : (y : Label) (n : ℕ) (ids : List Label) (l : Lot (Unit {0})) (d : ℕ) → is_some (slice_get (boxes_for y l) d) ≡ is_some (slice_get (boxes_for y (ended_at n ids l)) d)
ended_there y n ids l d =
    for_there y l d
    ∙ ap₂ (λ (x : Label) (ps : List Part). label_eq x y && is_some (slice_get (boxes_of_parts ps) d)) (sym (ended_layer n ids l)) (sym (ended_parts n ids l))
    ∙ sym (for_there y (ended_at n ids l) d)

-- new lots have their boxes in the cube of live lots
born_boxes : (y : Label) (n : ℕ) (new : List (NewLot (Unit {0}))) → map (boxes_for y) (map (born_at n) new) ≡ map (boxes_born y) new
born_boxes y n new = images_twice (born_at n) (boxes_for y) new

module _ (y : Label) (n : ℕ) (ids : List Label) (lots : List (Lot (Unit {0}))) (new : List (NewLot (Unit {0}))) (count : ℕ) (same : count ≡ length lots) (old m after : Boxes) (h : IsIndexAt y lots old) (put : ArePut old m count (map (boxes_born y) new))
    (settled : AreSettledAt y (lots_after n lots (lots_replaced ids new)) (λ x. is_among x ids) m after) where
  -- the lots after the change
  abbrev all : List (Lot (Unit {0}))
  all = map (ended_at n ids) lots ++ map (born_at n) new

  many : length lots ≡ length (map (ended_at n ids) lots)
  many = sym (length-map lots (ended_at n ids))

  -- the box of a lot is moved, if its id ends, and stays, if not
  settled_box : (id : ℕ) (l : Lot (Unit {0})) → slice_get all (id / 16) ≡ Some l → is_some (box_at m id) ≡ is_some (slice_get (boxes_for y l) (id % 16)) → (is_among l.id ids ≡ false → box_at m id ≡ slice_get (boxes_for y l) (id % 16)) → box_at after id ≡ box_among (map (boxes_for y) all) id
  settled_box id l at has stays = by (is_among l.id ids) refl ∙ sym (among_lots y all id l at)
    where
      by : (b : Bool) → is_among l.id ids ≡ b → box_at after id ≡ slice_get (boxes_for y l) (id % 16)
      by true e = settled.settled id l at e has
      by false e = settled.kept id l at e ∙ stays e

  -- the boxes of an earlier lot
  earlier : (id : ℕ) → id < count * 16 → box_at after id ≡ box_among (map (boxes_for y) all) id
  earlier id f =
      let k : ℕ = id / 16 in
      let item = get_some lots k (omega (arith, f, same)) in
      let l = item.0 in
      let at : slice_get all k ≡ Some (ended_at n ids l) =
      get_left (map (ended_at n ids) lots) (map (born_at n) new) k (omega (arith, f, many, same)) ∙ slice_get-map (ended_at n ids) lots k ∙ ap (option_map (ended_at n ids)) item.1 in
      let here : box_at m id ≡ slice_get (boxes_for y l) (id % 16) = put.rest id f ∙ h id ∙ among_lots y lots id l item.1 in
      settled_box id (ended_at n ids l) at (ap is_some here ∙ ended_there y n ids l (id % 16))
      (λ e. here ∙ ap (λ (o : Lot (Unit {0})). slice_get (boxes_for y o) (id % 16)) (sym (other_stays n ids l (ap (λ (x : Label). is_among x ids) (sym (ended_id n ids l)) ∙ e))))

  -- and of a new one
  behind : (id : ℕ) → count * 16 ≤ id → box_at after id ≡ box_among (map (boxes_for y) all) id
  behind id f = by (slice_get all (id / 16)) refl
    where
      put_there : box_at m id ≡ box_among (map (boxes_for y) all) id
      put_there =
          let d : ℕ = id - count * 16 in
          let at : count * 16 + d ≡ id = omega (arith, f) in
          let counted = length-map (map (ended_at n ids) lots) (boxes_for y) in
          ap (box_at m) (sym at) ∙ put.here d
          ∙ sym (ap (λ (ls : List (List IntegerBox)). box_among ls id) (map-append (boxes_for y) (map (ended_at n ids) lots) (map (born_at n) new))
          ∙ among_right (map (boxes_for y) (map (ended_at n ids) lots)) (map (boxes_for y) (map (born_at n) new)) id d (omega (arith, at, many, same, counted))
          ∙ ap (λ (ls : List (List IntegerBox)). box_among ls d) (born_boxes y n new))

      by : (o : Option (Lot (Unit {0}))) → slice_get all (id / 16) ≡ o → box_at after id ≡ box_among (map (boxes_for y) all) id
      by None at = settled.rest id (let past = past_if_none all (id / 16) at in omega (arith, past)) ∙ put_there
      by (Some l) at = let there = put_there ∙ among_lots y all id l at in settled_box id l at (ap is_some there) (λ e. there)

  -- the boxes of new lots are put into the index of the layer after the others, and those of the lots that end are moved: then they are those of the lots after the change
  indexed_at : IsIndexAt y (lots_after n lots (lots_replaced ids new)) after
  indexed_at id = ⊎_elim (earlier id) (behind id) (cases_lt id (count * 16))

-- so it is in each layer
pub indexed_after : (n : ℕ) (ids : List Label) (lots : List (Lot (Unit {0}))) (new : List (NewLot (Unit {0}))) (count : ℕ) → count ≡ length lots → (old m after : Label → Boxes) → IsIndexOf lots old → AreBorn old m count new → AreSettled (lots_after n lots (lots_replaced ids new)) (λ x. is_among x ids) m after
    → IsIndexOf (lots_after n lots (lots_replaced ids new)) after
indexed_after n ids lots new count same old m after h put settled y = indexed_at y n ids lots new count same (old y) (m y) (after y) (h y) (put y) (settled y)
