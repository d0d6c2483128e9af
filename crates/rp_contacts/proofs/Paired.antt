-- The places of live lots: they rise, and behind each stand the lots of its layer; what is counted of the pairs behind each is what the walk over each two lots of a layer counts.
use Rattle.std.proofs.Common.{◌≡◌, ℕ, ◌+◌, ◌<◌, Bool, true, false, ◌&&◌, cond, List, [], ◌∷◌, ◌++◌, map, filter, length, drop, get_or, slice_get, Option, Some, None, refl, sym, ap, ap₂, ◌∙◌, subst, arith, append_assoc}
use Rattle.std.specs.Prelude.{IsTrue, IfOk, Result, Ok, Err, option_map}
use Rattle.std.specs.List.{AllByRecursion}
use Rattle.std.proofs.lemmas.List.{drop_more, length-drop}
use Rattle.std.proofs.lemmas.Option.{slice_get-map, slice_get_read}
use Rattle.rp_algebra.proofs.Listed.{all_append}
use Rattle.rp_algebra.proofs.Lists.{get_some, all_filter}
use Rattle.rp_geometry.specs.sets.Shape.{Part}
use Rattle.rp_language.specs.Name.{Label, label_eq}
use Rattle.rp_semantics.specs.Form.{touching_pair}
use Rattle.rp_model.specs.states.State.{Lot, bare_lot, is_live, live_lots, lots_of_layer, ids_of}
use Rattle.rp_model.specs.states.Sound.{are_distinct}
use Rattle.rp_model.specs.commands.Parts.{count_with_each, count_among, lot_parts}
use Rattle.rp_states.proofs.Labels.{label_is}
use Rattle.rp_history.specs.declared.lot.LotLine.{LotLine}
use Rattle.rp_history.specs.Lots.{lot_of}
use Rattle.rp_history.proofs.Bare.{line_at, history_ids}
use Rattle.rp_history.proofs.Found.{there, one_place}
use Rattle.rp_history.proofs.Places.{left_further, places_below}
use Rattle.rp_history.specs.Places.{is_asked, is_live_in, live_places}
use Rattle.rp_oracle.specs.declared.stopped.Stopped.{Stopped}
use Rattle.rp_proximity.specs.declared.reach.Reach.{Reach}
use Rattle.rp_proximity.specs.declared.reach.Reach.TheVariants.{Touch}
use Rattle.rp_proximity.specs.Near.{others_in, pairs_with, is_near, lots_at, AreWithin}
use Rattle.rp_proximity.proofs.Behind.{others_behind}
use Rattle.rp_lots.specs.declared.near.Near.{Near}
use Rattle.rp_contacts.specs.declared.pair.Pair.{Pair}
use Rattle.rp_contacts.specs.Meets.{pair_of, parts_at, IsPairWithin}
use Rattle.rp_contacts.specs.Numbers.{lists_at, is_touching, places_with, places_among}
use Rattle.rp_contacts.specs.Behind.{lots_behind, tests_behind, AreNearBehind, ArePairsBehind}
use Rattle.rp_contacts.proofs.Items.{parts_there, first_there}
use Rattle.rp_contacts.proofs.Linked.{lists_of_lots}
use Rattle.rp_contacts.proofs.Meeting.{pairs_within}

-- ---- one place for each lot

-- the places of lots are known by the lots
places_once : (lots : List (Lot (Unit {0}))) → IsTrue (are_distinct (ids_of lots)) → (js ks : List ℕ) → AreWithin lots js → AreWithin lots ks → lots_at lots js ≡ lots_at lots ks → js ≡ ks
places_once lots d [] [] g h e = refl
places_once lots d [] (k ∷ ks) g h e =
    let item = get_some lots k h.0 in
    let f : [] ≡ item.0 ∷ lots_at lots ks = e ∙ first_there lots k item.0 item.1 ks in
    absurd (cc f)
places_once lots d (j ∷ js) [] g h e =
    let item = get_some lots j g.0 in
    let f : [] ≡ item.0 ∷ lots_at lots js = sym e ∙ first_there lots j item.0 item.1 js in
    absurd (cc f)
places_once lots d (j ∷ js) (k ∷ ks) g h e =
    let first = get_some lots j g.0 in
    let second = get_some lots k h.0 in
    let f : first.0 ∷ lots_at lots js ≡ second.0 ∷ lots_at lots ks = sym (first_there lots j first.0 first.1 js) ∙ e ∙ first_there lots k second.0 second.1 ks in
    let same : first.0 ≡ second.0 = cc in
    let rest : lots_at lots js ≡ lots_at lots ks = cc in
    ap₂ ◌∷◌ (one_place lots d j k first.0 first.1 (second.1 ∙ ap Some (sym same))) (places_once lots d js ks g.1 h.1 rest)

-- ---- the places of live lots

-- all are within
pub places_within : (lots : List (Lot (Unit {0}))) (o : Option Label) → AreWithin lots (live_places o 0 lots)
places_within lots o = places_below (length lots) o 0 lots (omega arith)

-- the lots at those of a layer
pub layer_there : (lots : List (Lot (Unit {0}))) (y : Label) (k : ℕ) (ls : List (Lot (Unit {0}))) → drop k lots ≡ ls → lots_at lots (live_places (Some y) k ls) ≡ lots_of_layer y (live_lots ls)
layer_there lots y k [] e = refl
layer_there lots y k (l ∷ ls) e =
    let left = left_further lots k l ls e in
    by (is_live l) (label_eq l.layer y) refl left.0 (layer_there lots y (k + 1) ls left.1)
  where
    places : List ℕ
    places = live_places (Some y) (k + 1) ls

    by : (a b : Bool) → label_eq l.layer y ≡ b → slice_get lots k ≡ Some l → lots_at lots places ≡ lots_of_layer y (live_lots ls) → lots_at lots (cond (a && b) (k ∷ places) places) ≡ lots_of_layer y (cond a (l ∷ live_lots ls) (live_lots ls))
    by true true f at later =
        first_there lots k l at places
        ∙ ap (λ (ms : List (Lot (Unit {0}))). l ∷ ms) later
        ∙ sym (ap (λ (b : Bool). cond b (l ∷ lots_of_layer y (live_lots ls)) (lots_of_layer y (live_lots ls))) f)
    by true false f at later = later ∙ sym (ap (λ (b : Bool). cond b (l ∷ lots_of_layer y (live_lots ls)) (lots_of_layer y (live_lots ls))) f)
    by false b f at later = later

-- lots without their parts are live at the same places
pub bare_places : (o : Option Label) (k : ℕ) (ls : List (Lot (Unit {0}))) → live_places o k (map bare_lot ls) ≡ live_places o k ls
bare_places o k [] = refl
bare_places o k (l ∷ ls) = ap (λ (ks : List ℕ). cond (is_live_in o l) (k ∷ ks) ks) (bare_places o (k + 1) ls)

-- the lot of a line
pub line_there : (lines : List LotLine) (k : ℕ) (line : LotLine) → k < length lines → line ≡ get_or lines k line → slice_get (map lot_of lines) k ≡ Some (lot_of line)
line_there lines k line within is = slice_get-map lot_of lines k ∙ ap (option_map lot_of) (slice_get_read lines (length lines) k line refl within is)

-- the lot at a place is of the layer that is asked for
abbrev pub is_asked_at : Option Label → List (Lot (Unit {0})) → ℕ → Bool
is_asked_at o lots k = elim (slice_get lots k) [ None ↦ false | Some l ↦ is_asked o l.layer ]

-- so is a lot that is known
pub asked_line : (o : Option Label) (lots : List (Lot (Unit {0}))) (k : ℕ) (l : Lot (Unit {0})) → slice_get lots k ≡ Some l → is_asked_at o lots k ≡ is_asked o l.layer
asked_line o lots k l at = ap (λ (m : Option (Lot (Unit {0}))). elim m as (λ _. Bool) [ None ↦ false | Some n ↦ is_asked o n.layer ]) at

-- the places of all live lots, of which those of the layer are asked for
pub asked_there : (lots : List (Lot (Unit {0}))) (o : Option Label) (k : ℕ) (ls : List (Lot (Unit {0}))) → drop k lots ≡ ls → filter (is_asked_at o lots) (live_places None k ls) ≡ live_places o k ls
asked_there lots o k [] e = refl
asked_there lots o k (l ∷ ls) e =
    let left = left_further lots k l ls e in
    by (is_live l) (asked_line o lots k l left.0) (asked_there lots o (k + 1) ls left.1)
  where
    all : List ℕ
    all = live_places None (k + 1) ls

    places : List ℕ
    places = live_places o (k + 1) ls

    by : (b : Bool) → is_asked_at o lots k ≡ is_asked o l.layer → filter (is_asked_at o lots) all ≡ places → filter (is_asked_at o lots) (cond (b && true) (k ∷ all) all) ≡ cond (b && is_asked o l.layer) (k ∷ places) places
    by true at later = ap₂ (λ (c : Bool) (ks : List ℕ). cond c (k ∷ ks) ks) at later
    by false at later = later

-- ---- the lots behind a place

-- a place that has an item is within
pub left_within : {A : Type 0} (xs : List A) (k : ℕ) (x : A) (ys : List A) → drop k xs ≡ x ∷ ys → k < length xs
left_within xs k x ys e = let n = length-drop k xs in let m = ap length e in omega (arith, n, m)

-- the lots behind a place at which a lot is known
pub behind_here : (lots : List (Lot (Unit {0}))) (k : ℕ) (l : Lot (Unit {0})) → slice_get lots k ≡ Some l → lots_behind lots k ≡ lots_of_layer l.layer (live_lots (drop (k + 1) lots))
behind_here lots k l at = ap (λ (o : Option (Lot (Unit {0}))). elim o as (λ _. List (Lot (Unit {0}))) [ None ↦ [] | Some m ↦ lots_of_layer m.layer (live_lots (drop (k + 1) lots)) ]) at

-- ids that are distinct in the history are so in the lots
pub own_distinct : (lots history : List (Lot (Unit {0}))) → history ≡ map bare_lot lots → IsTrue (are_distinct (ids_of history)) → IsTrue (are_distinct (ids_of lots))
own_distinct lots history e d = subst (λ (xs : List Label). IsTrue (are_distinct xs)) (history_ids lots history e) d

-- the others behind a live lot are all lots of its layer there
pub others_are : (lots : List (Lot (Unit {0}))) → IsTrue (are_distinct (ids_of lots)) → (history : List (Lot (Unit {0}))) (lines : List LotLine) → history ≡ map bare_lot lots → map lot_of lines ≡ history → (k : ℕ) (line : LotLine) → k < length lots → line ≡ get_or lines k line →
    others_in line.layer line.id (drop (k + 1) lots) ≡ lots_behind lots k
others_are lots distinct history lines e f k line within is =
    let item = line_at lots history lines e f k line within is in
    sym (ap (λ (m : Lot (Unit {0})). others_in m.layer m.id (drop (k + 1) lots)) item.2) ∙ others_behind lots distinct k item.0 within item.1 ∙ sym (behind_here lots k item.0 item.1)

-- what was found behind a lot
pub near_behind : (r : Reach) (lots : List (Lot (Unit {0}))) (k : ℕ) (ps : List Part) (ls : List (Lot (Unit {0}))) (found : Result Near Stopped) → ps ≡ parts_at lots k → ls ≡ lots_behind lots k
    → IfOk found (λ near. AreWithin lots near.places.items) → IfOk found (λ near. lots_at lots near.places.items ≡ filter (is_near r ps) ls) → IfOk found (λ near. AreNearBehind r lots k near.places.items)
near_behind r lots k ps ls (Ok near) own others within there = record { within = within; there = there ∙ ap₂ (λ (qs : List Part) (ms : List (Lot (Unit {0}))). filter (is_near r qs) ms) own others }
near_behind r lots k ps ls (Err e) own others within there = tt

module _ (lots : List (Lot (Unit {0}))) (k : ℕ) (l : Lot (Unit {0})) (ls : List (Lot (Unit {0}))) (left : drop k lots ≡ l ∷ ls) where
  -- the lots behind the first of those that are left
  pub behind_first : lots_behind lots k ≡ lots_of_layer l.layer (live_lots ls)
  behind_first = let next = left_further lots k l ls left in behind_here lots k l next.0 ∙ ap (λ (ms : List (Lot (Unit {0}))). lots_of_layer l.layer (live_lots ms)) next.1

  -- its parts
  pub own_parts : parts_at lots k ≡ l.parts
  own_parts = parts_there lots k l (left_further lots k l ls left).0

-- the pairs behind some places are within the lots
pub behind_within : (r : Reach) (lots : List (Lot (Unit {0}))) (ks : List ℕ) → AreWithin lots ks → (pairs : List Pair) → ArePairsBehind r lots ks pairs → AllByRecursion (IsPairWithin lots) pairs
behind_within r lots [] w pairs h = subst (AllByRecursion (IsPairWithin lots)) (sym h) tt
behind_within r lots (k ∷ ks) w pairs h =
    subst (AllByRecursion (IsPairWithin lots)) (sym h.2)
    (all_append (IsPairWithin lots) (map (pair_of k) h.0) h.1 (pairs_within lots lots k h.0 (map (pair_of k) h.0) refl w.0 h.3.within refl) (behind_within r lots ks w.1 h.1 h.4))

-- ---- the live lots of a layer

module _ (lots : List (Lot (Unit {0}))) (y : Label) where
  -- the lots behind the first of those that are left stand at the further places
  behind_places : (k : ℕ) (l : Lot (Unit {0})) (ls : List (Lot (Unit {0}))) → drop k lots ≡ l ∷ ls → label_eq l.layer y ≡ true → lots_behind lots k ≡ lots_at lots (live_places (Some y) (k + 1) ls)
  behind_places k l ls left own = behind_first lots k l ls left ∙ ap (λ (z : Label). lots_of_layer z (live_lots ls)) (label_is l.layer y own) ∙ sym (layer_there lots y (k + 1) ls (left_further lots k l ls left).1)

  -- those places are within
  further_within : (k : ℕ) (l : Lot (Unit {0})) (ls : List (Lot (Unit {0}))) → drop k lots ≡ l ∷ ls → AreWithin lots (live_places (Some y) (k + 1) ls)
  further_within k l ls left =
      let n = length-drop k lots in
      let m = ap length left in
      let within = left_within lots k l ls left in
      places_below (length lots) (Some y) (k + 1) ls (omega (arith, n, m, within))

  -- their tests are counted
  pub layer_counted : (k : ℕ) (ls : List (Lot (Unit {0}))) → drop k lots ≡ ls → tests_behind Touch lots (live_places (Some y) k ls) ≡ count_among touching_pair (lists_at lots (live_places (Some y) k ls))
  layer_counted k [] e = refl
  layer_counted k (l ∷ ls) e = by (is_live l) (label_eq l.layer y) refl (layer_counted (k + 1) ls (left_further lots k l ls e).1)
    where
      places : List ℕ
      places = live_places (Some y) (k + 1) ls

      by : (a b : Bool) → label_eq l.layer y ≡ b → tests_behind Touch lots places ≡ count_among touching_pair (lists_at lots places) → tests_behind Touch lots (cond (a && b) (k ∷ places) places) ≡ count_among touching_pair (lists_at lots (cond (a && b) (k ∷ places) places))
      by true true own later = ap₂ ◌+◌ (ap (count_with_each touching_pair (parts_at lots k)) (ap lot_parts (behind_places k l ls e own) ∙ lists_of_lots lots places (further_within k l ls e))) later
      by true false own later = later
      by false b own later = later

  -- the pairs of a lot with those of some places that may touch it
  with_kept : (k : ℕ) (js : List ℕ) → map (pair_of k) (filter (λ j. is_touching (parts_at lots k) (parts_at lots j)) js) ≡ places_with lots k js
  with_kept k [] = refl
  with_kept k (j ∷ js) = by (is_touching (parts_at lots k) (parts_at lots j)) (with_kept k js)
    where
      kept : List ℕ
      kept = filter (λ i. is_touching (parts_at lots k) (parts_at lots i)) js

      by : (b : Bool) → map (pair_of k) kept ≡ places_with lots k js → map (pair_of k) (cond b (j ∷ kept) kept) ≡ cond b (pair_of k j ∷ places_with lots k js) (places_with lots k js)
      by true later = ap (λ (ps : List Pair). pair_of k j ∷ ps) later
      by false later = later

  -- the lots of these places
  kept_there : (k : ℕ) (js : List ℕ) → AreWithin lots js → lots_at lots (filter (λ j. is_touching (parts_at lots k) (parts_at lots j)) js) ≡ filter (is_near Touch (parts_at lots k)) (lots_at lots js)
  kept_there k [] w = refl
  kept_there k (j ∷ js) w =
      let item = get_some lots j w.0 in
      let m = item.0 in
      by m item.1 (is_touching (parts_at lots k) (parts_at lots j)) (sym (ap (is_touching (parts_at lots k)) (parts_there lots j m item.1))) (kept_there k js w.1)
      ∙ sym (ap (λ (ms : List (Lot (Unit {0}))). filter (is_near Touch (parts_at lots k)) ms) (first_there lots j m item.1 js))
    where
      kept : List ℕ
      kept = filter (λ i. is_touching (parts_at lots k) (parts_at lots i)) js

      near : List (Lot (Unit {0}))
      near = filter (is_near Touch (parts_at lots k)) (lots_at lots js)

      by : (m : Lot (Unit {0})) → slice_get lots j ≡ Some m → (b : Bool) → is_near Touch (parts_at lots k) m ≡ b → lots_at lots kept ≡ near → lots_at lots (cond b (j ∷ kept) kept) ≡ filter (is_near Touch (parts_at lots k)) (m ∷ lots_at lots js)
      by m at true e later = first_there lots j m at kept ∙ ap (λ (ms : List (Lot (Unit {0}))). m ∷ ms) later ∙ sym (ap (λ (b : Bool). cond b (m ∷ near) near) e)
      by m at false e later = later ∙ sym (ap (λ (b : Bool). cond b (m ∷ near) near) e)

  -- the pairs of a lot with the near ones behind it
  own_paired : IsTrue (are_distinct (ids_of lots)) → (k : ℕ) (ks : List ℕ) → AreWithin lots ks → lots_behind lots k ≡ lots_at lots ks → (js : List ℕ) → AreNearBehind Touch lots k js → map (pair_of k) js ≡ places_with lots k ks
  own_paired distinct k ks within behind js near =
      let kept = filter (λ j. is_touching (parts_at lots k) (parts_at lots j)) ks in
      let same : js ≡ kept =
      places_once lots distinct js kept near.within (all_filter (λ j. j < length lots) (λ j. is_touching (parts_at lots k) (parts_at lots j)) ks within)
      (near.there ∙ ap (λ (ms : List (Lot (Unit {0}))). filter (is_near Touch (parts_at lots k)) ms) behind ∙ sym (kept_there k ks within)) in
      ap (map (pair_of k)) same ∙ with_kept k ks

  -- the pairs behind each are those of each two places
  pub layer_paired : IsTrue (are_distinct (ids_of lots)) → (k : ℕ) (ls : List (Lot (Unit {0}))) → drop k lots ≡ ls → (pairs : List Pair) → ArePairsBehind Touch lots (live_places (Some y) k ls) pairs → pairs ≡ places_among lots (live_places (Some y) k ls)
  layer_paired distinct k [] e pairs h = h
  layer_paired distinct k (l ∷ ls) e pairs h = by (is_live l) (label_eq l.layer y) refl (layer_paired distinct (k + 1) ls (left_further lots k l ls e).1) pairs h
    where
      places : List ℕ
      places = live_places (Some y) (k + 1) ls

      by : (a b : Bool) → label_eq l.layer y ≡ b → ((more : List Pair) → ArePairsBehind Touch lots places more → more ≡ places_among lots places)
          → (ps : List Pair) → ArePairsBehind Touch lots (cond (a && b) (k ∷ places) places) ps → ps ≡ places_among lots (cond (a && b) (k ∷ places) places)
      by true true own later ps g = g.2 ∙ ap₂ ◌++◌ (own_paired distinct k places (further_within k l ls e) (behind_places k l ls e own) g.0 g.3) (later g.1 g.4)
      by true false own later ps g = later ps g
      by false b own later ps g = later ps g

-- ---- one place after the other

-- the pairs behind one more place
pub pairs_more : (r : Reach) (lots : List (Lot (Unit {0}))) (places : List ℕ) (i : ℕ) → i < length places → (pairs new : List Pair) → ((more : List Pair) → ArePairsBehind r lots (drop i places) more → ArePairsBehind r lots places (pairs ++ more))
    → (js : List ℕ) → AreNearBehind r lots (get_or places i 0) js → new ≡ pairs ++ map (pair_of (get_or places i 0)) js → (more : List Pair) → ArePairsBehind r lots (drop (i + 1) places) more → ArePairsBehind r lots places (new ++ more)
pairs_more r lots places i h pairs new so_far js near e more g =
    let k = get_or places i 0 in
    subst (ArePairsBehind r lots places) (sym (ap (λ (ps : List Pair). ps ++ more) e ∙ append_assoc pairs (map (pair_of k) js) more))
    (so_far (map (pair_of k) js ++ more) (subst (λ (ks : List ℕ). ArePairsBehind r lots ks (map (pair_of k) js ++ more)) (sym (drop_more places i 0 h)) (js, more, refl, near, g)))

-- the tests behind one more place
pub tests_more : (r : Reach) (lots : List (Lot (Unit {0}))) (places : List ℕ) (i : ℕ) → i < length places → tests_behind r lots (drop i places) ≡ pairs_with r (parts_at lots (get_or places i 0)) (lots_behind lots (get_or places i 0)) + tests_behind r lots (drop (i + 1) places)
tests_more r lots places i h = ap (tests_behind r lots) (drop_more places i 0 h)
