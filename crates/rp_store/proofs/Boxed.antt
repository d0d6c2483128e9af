-- The indexes of the boxes of lots, through a change.
use Rattle.std.proofs.Common.{◌≡◌, ℕ, zero, suc, ◌+◌, ◌-◌, ◌*◌, ◌/◌, ◌%◌, ◌<◌, ◌≤◌, Bool, true, false, cond, List, [], ◌∷◌, ◌++◌, ⊎_elim, map, length, take, drop, get_or, Option, Some, None, slice_get, slice_index_or, refl, sym, ap, ap₂, ◌∙◌, subst, arith}
use Rattle.std.specs.FinMap.{empty}
use Rattle.std.specs.Prelude.{option_map}
use Rattle.std.proofs.lemmas.Bool.{cases_lt}
use Rattle.std.proofs.lemmas.List.{length-append, length-map, length-take, map-append, take_more}
use Rattle.std.proofs.lemmas.Option.{get_or_from_slice_get, slice_get-map, slice_get_read, slice_get_within}
use Rattle.rp_algebra.proofs.Lists.{images_twice}
use Rattle.rp_geometry.specs.Geometry.{IntegerBox}
use Rattle.rp_geometry.specs.sets.Shape.{Part}
use Rattle.rp_language.specs.Name.{Label, label_eq, is_among}
use Rattle.rp_model.specs.states.State.{Lot, NewLot, ended_at, born_at, lots_replaced, most_kept_parts}
use Rattle.rp_states.proofs.Labels.{label_is}
use Rattle.rp_history.specs.declared.lot.Birth.{Birth}
use Rattle.rp_history.specs.Lots.{lots_after}
use Rattle.rp_history.specs.Parts.{lots_with_parts, new_lots}
use Rattle.rp_history.proofs.Together.{length-with_parts}
use Rattle.rp_boxindex.specs.Boxes.{Boxes}
use Rattle.rp_proximity.specs.Hulls.{joined}
use Rattle.rp_lotindex.specs.Indexed.{hull_of_parts, boxes_of, boxes_of_parts, box_at, box_in, box_among, boxes_born, is_layer, ArePut, StaySame, OthersStay, AreFree, AreBorn, AllStay, AreRemoved, AreSettled, IsIndexOf}
use Rattle.rp_lotindex.proofs.Boxed.{indexed_after, indexed_again, indexed_none, free_after_lots}
use Rattle.rp_lotindex.proofs.Hulls.{boxes_few}
use Rattle.rp_lotindex.proofs.Put.{put_first, put_none, put_both, none_behind_put}
use Rattle.rp_store.specs.Kept.{AreFew, AreLots}

-- the parts of new lots are those of their lists
new_lists : (births : List Birth) (lists : List (List Part)) → length births ≡ length lists → map (λ a. a.parts) (new_lots births lists) ≡ lists
new_lists [] [] e = refl
new_lists [] (ps ∷ lists) e = absurd (omega (arith, e))
new_lists (b ∷ births) [] e = absurd (omega (arith, e))
new_lists (b ∷ births) (ps ∷ lists) e = let f : length births ≡ length lists = omega (arith, e) in ap (λ (ls : List (List Part)). ps ∷ ls) (new_lists births lists f)

-- and their layers those of their births
pub new_layers : (births : List Birth) (lists : List (List Part)) → length births ≡ length lists → map (λ a. a.layer) (new_lots births lists) ≡ map (λ b. b.layer) births
new_layers [] lists e = refl
new_layers (b ∷ births) [] e = absurd (omega (arith, e))
new_layers (b ∷ births) (ps ∷ lists) e = let f : length births ≡ length lists = omega (arith, e) in ap (λ (ys : List Label). b.layer ∷ ys) (new_layers births lists f)

-- there are as many as lists
pub new_counted : (births : List Birth) (lists : List (List Part)) → length births ≡ length lists → length (new_lots births lists) ≡ length lists
new_counted births lists e = sym (length-map (new_lots births lists) (λ (a : NewLot (Unit {0})). a.parts)) ∙ ap length (new_lists births lists e)

-- a new lot, by its birth and its parts
abbrev pub new_lot : Birth → List Part → NewLot (Unit {0})
new_lot b ps = record { id = b.id; layer = b.layer; set = tt; parts = ps; origins = b.origins.items }

-- the one of a place
pub new_at : (births : List Birth) (lists : List (List Part)) (i : ℕ) (b : Birth) (ps : List Part) → slice_get births i ≡ Some b → slice_get lists i ≡ Some ps → slice_get (new_lots births lists) i ≡ Some (new_lot b ps)
new_at [] lists i b ps e f = absurd (cc)
new_at (a ∷ births) [] i b ps e f = absurd (cc)
new_at (a ∷ births) (qs ∷ lists) zero b ps e f = let same : a ≡ b = cc in let own : qs ≡ ps = cc in λ i. Some (new_lot (same i) (own i))
new_at (a ∷ births) (qs ∷ lists) (suc i) b ps e f = new_at births lists i b ps e f

-- ---- the boxes of new lots, put into the indexes of their layers

-- at first those of no lots
pub born_first : (m : Label → Boxes) (first : ℕ) → AreFree m first → AreBorn {S = Unit {0}} m m first []
born_first m first none y = put_first (m y) first (none y)

module _ (old m : Label → Boxes) (first i : ℕ) (all : List (NewLot (Unit {0}))) (within : i ≤ length all) (h : AreBorn old m first (take i all)) where
  -- there are so many of them
  so_many : (y : Label) → length (map (boxes_born y) (take i all)) ≡ i
  so_many y = let some = length-map (take i all) (boxes_born y) in let short = length-take i all in omega (arith, within, some, short)

  -- behind those so far no layer has a box
  pub born_free : AreFree m (first + i)
  born_free y = none_behind_put (old y) (m y) first (first + i) (map (boxes_born y) (take i all)) (h y) (ap (λ (n : ℕ). first + n) (sym (so_many y)))

  -- one more
  pub born_next : (new : Label → Boxes) (a : NewLot (Unit {0})) → slice_get all i ≡ Some a → ArePut (m a.layer) (new a.layer) (first + i) (boxes_of a.parts ∷ []) → OthersStay a.layer m new → AreBorn old new first (take (i + 1) all)
  born_next new a at put others y =
      subst (ArePut (old y) (new y) first)
      (sym (ap (map (boxes_born y)) (take_more all i a (slice_get_within all i a at) ∙ ap (λ (b : NewLot (Unit {0})). take i all ++ b ∷ []) (get_or_from_slice_get all i a a at)) ∙ map-append (boxes_born y) (take i all) (a ∷ [])))
      (put_both (old y) (m y) (new y) first (first + i) (map (boxes_born y) (take i all)) (boxes_born y a ∷ []) (h y) (ap (λ (n : ℕ). first + n) (sym (so_many y))) (by (label_eq a.layer y) refl))
    where
      by : (b : Bool) → label_eq a.layer y ≡ b → ArePut (m y) (new y) (first + i) (cond b (boxes_of a.parts) [] ∷ [])
      by true e = subst (λ (x : Label). ArePut (m x) (new x) (first + i) (boxes_of a.parts ∷ [])) (label_is a.layer y e) put
      by false e = subst (λ (n : Boxes). ArePut (m y) n (first + i) ([] ∷ [])) (sym (others y e)) (put_none (m y) (first + i) (born_free y))

-- where the boxes of a lot are not taken in, all is as before
pub all_stay : (m new : Label → Boxes) (x : Label) → StaySame (m x) (new x) → OthersStay x m new → AllStay m new
all_stay m new x same others y = by (label_eq x y) refl
  where
    by : (b : Bool) → label_eq x y ≡ b → StaySame (m y) (new y)
    by true e = subst (λ (z : Label). StaySame (m z) (new z)) (label_is x y e) same
    by false e = λ id. ap (λ (n : Boxes). box_at n id) (others y e)

-- a layer has no box of a lot of another one
not_born : (y : Label) (lots : List (NewLot (Unit {0}))) (d : ℕ) → is_layer (slice_get (map (λ a. a.layer) lots) (d / 16)) y ≡ false → box_among (map (boxes_born y) lots) d ≡ None
not_born y lots d e = ap (λ (o : Option (List IntegerBox)). box_in o (d % 16)) (slice_get-map (boxes_born y) lots (d / 16)) ∙ by (slice_get lots (d / 16)) (ap (λ (o : Option Label). is_layer o y) (sym (slice_get-map (λ (a : NewLot (Unit {0})). a.layer) lots (d / 16))) ∙ e)
  where
    by : (o : Option (NewLot (Unit {0}))) → is_layer (option_map (λ (a : NewLot (Unit {0})). a.layer) o) y ≡ false → box_in (option_map (boxes_born y) o) (d % 16) ≡ None
    by None f = refl
    by (Some a) f = ap (λ (b : Bool). slice_get (cond b (boxes_of a.parts) []) (d % 16)) f

-- and all is as before where those so far are taken out
pub born_back : (old m stopped new : Label → Boxes) (first : ℕ) (lots : List (NewLot (Unit {0}))) (layers : List Label) → AreFree old first → AreBorn old m first lots → AllStay m stopped → map (λ a. a.layer) lots ≡ layers → AreRemoved stopped new first layers → AllStay old new
born_back old m stopped new first lots layers none h same own taken y id = ⊎_elim
    (λ (f : id < first * 16). taken.rest y id f ∙ same y id ∙ (h y).rest id f)
    (λ (f : first * 16 ≤ id). by f (is_layer (slice_get layers (id / 16 - first)) y) refl)
    (cases_lt id (first * 16))
  where
    by : first * 16 ≤ id → (b : Bool) → is_layer (slice_get layers (id / 16 - first)) y ≡ b → box_at (new y) id ≡ box_at (old y) id
    by f true e = taken.gone y id (id / 16 - first) (omega (arith, f)) e ∙ sym (none y id f)
    by f false e =
        let d : ℕ = id - first * 16 in
        let at : first * 16 + d ≡ id = omega (arith, f) in
        let place : id / 16 - first ≡ d / 16 = omega (arith, f) in
        let gone : is_layer (slice_get (map (λ a. a.layer) lots) (d / 16)) y ≡ false = ap (λ (ys : List Label). is_layer (slice_get ys (d / 16)) y) own ∙ ap (λ (k : ℕ). is_layer (slice_get layers k) y) (sym place) ∙ e in
        taken.kept y id (id / 16 - first) (omega (arith, f)) e ∙ same y id
        ∙ ap (box_at (m y)) (sym at) ∙ (h y).here d ∙ not_born y lots d gone ∙ sym (none y id f)

-- the least box around parts, by the first of them and the others
pub hull_by_first : {A : Type 0} (seen : A → Part) (xs : List A) (x : A) → 1 ≤ length xs → x ≡ slice_index_or xs 0 x → joined (seen x).bounds (map (λ p. (seen p).bounds) (drop 1 xs)) ≡ hull_of_parts (map seen xs)
hull_by_first seen [] x h e = absurd (omega (arith, h))
hull_by_first seen (y ∷ ys) x h e = ap₂ joined (ap (λ p. (seen p).bounds) e) (sym (images_twice seen (λ (p : Part). p.bounds) ys))

-- the box of a part, where there are few
pub part_box : {A : Type 0} (seen : A → Part) (xs : List A) (ps : List Part) (i : ℕ) (x : A) (b : IntegerBox) → map seen xs ≡ ps → length xs ≤ 16 → i < length (boxes_of_parts ps) → x ≡ get_or xs i x → b ≡ (seen x).bounds → slice_get (boxes_of_parts ps) i ≡ Some b
part_box seen xs ps i x b is few here read own =
    let many = sym (ap length is) ∙ length-map xs seen in
    let boxes = boxes_few ps (omega (arith, many, few)) in
    let each = ap length boxes ∙ length-map ps (λ (p : Part). p.bounds) in
    let at = slice_get_read xs (length xs) i x refl (omega (arith, here, each, many)) read in
    ap (λ (bs : List IntegerBox). slice_get bs i) boxes ∙ slice_get-map (λ (p : Part). p.bounds) ps i
    ∙ ap (option_map (λ (p : Part). p.bounds)) (ap (λ (qs : List Part). slice_get qs i) (sym is) ∙ slice_get-map seen xs i ∙ ap (option_map seen) at) ∙ ap (λ (c : IntegerBox). Some c) (sym own)

-- no lots at all
pub no_lots : (index : Label → Boxes) → ((y : Label) → index y ≡ empty) → AreLots [] [] 0 index
no_lots index none = record { each = refl; bare = refl; distinct = refl; count = refl; few = record { few_lots = omega arith; few_parts = omega arith }; indexed = indexed_none index none }

module _ (history : List (Lot (Unit {0}))) (lists : List (List Part)) (parts : ℕ) (index : Label → Boxes) (h : AreLots history lists parts index) (count : ℕ) (e : count ≡ length lists) where
  -- its lots
  abbrev lots : List (Lot (Unit {0}))
  lots = lots_with_parts history lists

  -- as many as lists
  counted : count ≡ length lots
  counted = e ∙ sym (length-with_parts history lists h.each)

  -- there is room for new ones
  pub room_for : (n : ℕ) (ids : List Label) (births : List Birth) (more : List (List Part)) → length births ≡ length more → AreFew (lots_after n lots (lots_replaced ids (new_lots births more))) → count + length more ≤ most_kept_parts
  room_for n ids births more f few =
      let all = length-append (map (ended_at n ids) lots) (map (born_at n) (new_lots births more)) in
      let old = length-map lots (ended_at n ids) in
      let born = length-map (new_lots births more) (born_at n) in
      let new = sym (length-map (new_lots births more) (λ a. a.parts)) ∙ ap length (new_lists births more f) in
      let most = few.few_lots in
      let own = counted in
      omega (arith, all, old, born, new, most, own)

  -- after the lots no layer has a box
  pub free_behind : AreFree index count
  free_behind = subst (AreFree index) (sym counted) (free_after_lots lots index h.indexed)

  -- lots are kept over other indexes that are about them
  kept_over : (new : Label → Boxes) → IsIndexOf lots new → AreLots history lists parts new
  kept_over new indexed = record { each = h.each; bare = h.bare; distinct = h.distinct; count = h.count; few = h.few; indexed = indexed }

  -- where every place has what it had, all is as before
  pub lots_stay : (new : Label → Boxes) → AllStay index new → AreLots history lists parts new
  lots_stay new s = kept_over new (indexed_again lots index h.indexed new s)

  -- boxes were put in after the lots, and those of the lots that end were moved
  pub indexed_replaced : (n : ℕ) (ids : List Label) (births : List Birth) (more : List (List Part)) (m new : Label → Boxes) → AreBorn index m count (new_lots births more) → AreSettled (lots_after n lots (lots_replaced ids (new_lots births more))) (λ y. is_among y ids) m new
      → IsIndexOf (lots_after n lots (lots_replaced ids (new_lots births more))) new
  indexed_replaced n ids births more m new put settled = indexed_after n ids lots (new_lots births more) count counted index m new h.indexed put settled

  -- none were put in, and those of the lots that end were moved
  pub indexed_retired : (n : ℕ) (ids : List Label) (new : Label → Boxes) → AreSettled (lots_after n lots (lots_replaced ids [])) (λ y. is_among y ids) index new → IsIndexOf (lots_after n lots (lots_replaced ids [])) new
  indexed_retired n ids new settled = indexed_after n ids lots [] count counted index index new h.indexed (born_first index count free_behind) settled
