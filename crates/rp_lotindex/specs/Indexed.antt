-- The boxes of lots: an index for each layer, with the boxes of its lots under ids of their places.
use Rattle.std.specs.Prelude.{◌≡◌, ◌≢◌, ℕ, ◌+◌, ◌*◌, ◌/◌, ◌%◌, ◌<◌, ◌≤◌, Bool, true, false, cond, nat_le, List, [], ◌∷◌, map, Option, Some, None, option_map, is_some, slice_get, length, unwrap_or}
use Rattle.std.specs.FinMap.{get, empty}
use Rattle.std.specs.Map.{lookup}
use Rattle.rp_geometry.specs.Geometry.{IntegerBox, cube_box}
use Rattle.rp_geometry.specs.sets.Shape.{Part}
use Rattle.rp_language.specs.Name.{Label, label_eq}
use Rattle.rp_space.specs.Boxes.{integer_box}
use Rattle.rp_model.specs.states.State.{Lot, NewLot, bare_lot}
use Rattle.rp_boxindex.specs.Boxes.{Boxes}
use Rattle.rp_proximity.specs.Hulls.{bounds_of, joined}
use Rattle.rp_lotindex.specs.declared.boxes.LotBoxes.{LotBoxes}
use Rattle.rp_lotindex.specs.Cubes.{moved, moved_past}
use Rattle.rp_lotindex.specs.Stretches.{stretch_of}

-- the least box around some boxes; the cube if there are none
abbrev pub hull_of : List IntegerBox → IntegerBox
hull_of [] = cube_box
hull_of (b ∷ bs) = joined b bs

-- the least box around parts
abbrev pub hull_of_parts : List Part → IntegerBox
hull_of_parts ps = hull_of (bounds_of ps)

-- the boxes of a form: those of its parts; if these are more than 16, the least box around all
abbrev pub boxes_of_parts : List Part → List IntegerBox
boxes_of_parts ps = cond (nat_le (length ps) 16) (bounds_of ps) (hull_of_parts ps ∷ [])

-- boxes, moved into the cube of live lots
abbrev pub all_moved : List IntegerBox → List IntegerBox
all_moved bs = map moved bs

-- the boxes of a live lot, from its parts
abbrev pub boxes_of : List Part → List IntegerBox
boxes_of ps = all_moved (boxes_of_parts ps)

-- ---- the boxes of a layer

-- the index of a layer; the empty one if the layer has none
abbrev pub index_of : LotBoxes → Label → Boxes
index_of a y = unwrap_or (lookup (label_eq y) a.layers.entries) empty

-- all other layers have the boxes that they had
abbrev pub OthersStay : Label → (Label → Boxes) → (Label → Boxes) → Type 0
OthersStay y old new = (x : Label) → label_eq y x ≡ false → new x ≡ old x

-- the box under an id
abbrev pub box_at : Boxes → ℕ → Option IntegerBox
box_at boxes id = option_map integer_box (get boxes id)

-- the box with a number in a list; none if there is none
abbrev pub box_in : Option (List IntegerBox) → ℕ → Option IntegerBox
box_in None d = None
box_in (Some bs) d = slice_get bs d

-- the box of an id, by the lists of boxes of the places, each of which has 16 ids
abbrev pub box_among : List (List IntegerBox) → ℕ → Option IntegerBox
box_among lists id = box_in (slice_get lists (id / 16)) (id % 16)

-- no place from n on has a box
abbrev pub NoneBehind : Boxes → ℕ → Type 0
NoneBehind boxes n = (id : ℕ) → n * 16 ≤ id → box_at boxes id ≡ None

-- the places from the first on have the given boxes, in order, and all earlier places have what they had
pub record ArePut (old new : Boxes) (first : ℕ) (lists : List (List IntegerBox)) : Type 0 where
  pub here : (d : ℕ) → box_at new (first * 16 + d) ≡ box_among lists d
  pub rest : (id : ℕ) → id < first * 16 → box_at new id ≡ box_at old id

-- every place has the boxes that it had
abbrev pub StaySame : Boxes → Boxes → Type 0
StaySame old new = (id : ℕ) → box_at new id ≡ box_at old id

-- the place has the new boxes, if it had equally many before; every other place has what it had
pub record IsSettled (old new : Boxes) (place : ℕ) (bs : List IntegerBox) : Type 0 where
  pub here : (id : ℕ) → id / 16 ≡ place → is_some (box_at old id) ≡ is_some (slice_get bs (id % 16)) → box_at new id ≡ slice_get bs (id % 16)
  pub rest : (id : ℕ) → id / 16 ≢ place → box_at new id ≡ box_at old id

-- the place has no box, and every other place has the boxes that it had
pub record IsTakenOut (old new : Boxes) (place : ℕ) : Type 0 where
  pub gone : (id : ℕ) → id / 16 ≡ place → box_at new id ≡ None
  pub rest : (id : ℕ) → id / 16 ≢ place → box_at new id ≡ box_at old id

-- ---- the boxes of lots

-- the position of a box of a lot: the cube of live lots, or that of the least stretch with its birth and its end
abbrev pub box_by : {S : Type 0} → Lot S → IntegerBox → IntegerBox
box_by l b = elim l.ended [ None ↦ moved b | Some t ↦ moved_past (stretch_of l.born t) b ]

-- the positions of the boxes of a lot
abbrev pub boxes_by : {S : Type 0} → Lot S → List IntegerBox → List IntegerBox
boxes_by l bs = map (box_by l) bs

-- the boxes of a lot, at their positions
abbrev pub boxes_of_lot : {S : Type 0} → Lot S → List IntegerBox
boxes_of_lot l = boxes_by l (boxes_of_parts l.parts)

-- the boxes of a lot in the index of a layer: none if the lot is of another layer
abbrev pub boxes_for : {S : Type 0} → Label → Lot S → List IntegerBox
boxes_for y l = cond (label_eq l.layer y) (boxes_of_lot l) []

-- the boxes of a new lot in the index of a layer
abbrev pub boxes_born : {S : Type 0} → Label → NewLot S → List IntegerBox
boxes_born y a = cond (label_eq a.layer y) (boxes_of a.parts) []

-- the index of a layer has the boxes of each of its lots, and no others
abbrev pub IsIndexAt : {S : Type 0} → Label → List (Lot S) → Boxes → Type 0
IsIndexAt y lots boxes = (id : ℕ) → box_at boxes id ≡ box_among (map (boxes_for y) lots) id

-- the index of each layer has the boxes of each of its lots, and no others
abbrev pub IsIndexOf : {S : Type 0} → List (Lot S) → (Label → Boxes) → Type 0
IsIndexOf lots index = (y : Label) → IsIndexAt y lots (index y)

-- no layer has a box from a place on
abbrev pub AreFree : (Label → Boxes) → ℕ → Type 0
AreFree index n = (y : Label) → NoneBehind (index y) n

-- the indexes have the boxes of new lots in their layers, at the places from one on, in order; all earlier places have the boxes that they had
abbrev pub AreBorn : {S : Type 0} → (Label → Boxes) → (Label → Boxes) → ℕ → List (NewLot S) → Type 0
AreBorn old new first lots = (y : Label) → ArePut (old y) (new y) first (map (boxes_born y) lots)

-- every place has the boxes that it had, in each layer
abbrev pub AllStay : (Label → Boxes) → (Label → Boxes) → Type 0
AllStay old new = (y : Label) → StaySame (old y) (new y)

-- the layer is the given one, if there is one
abbrev pub is_layer : Option Label → Label → Bool
is_layer None y = false
is_layer (Some x) y = label_eq x y

-- from a place on, the next place has no box in its given layer, in order; everything else is as before
pub record AreRemoved (old new : Label → Boxes) (first : ℕ) (layers : List Label) : Type 0 where
  pub gone : (y : Label) (id k : ℕ) → id / 16 ≡ first + k → is_layer (slice_get layers k) y ≡ true → box_at (new y) id ≡ None
  pub kept : (y : Label) (id k : ℕ) → id / 16 ≡ first + k → is_layer (slice_get layers k) y ≡ false → box_at (new y) id ≡ box_at (old y) id
  pub rest : (y : Label) (id : ℕ) → id < first * 16 → box_at (new y) id ≡ box_at (old y) id

-- in the index of a layer: lots that pass the test have their boxes, if they had equally many; other lots and later places have what they had
pub record AreSettledAt {S : Type 0} (y : Label) (lots : List (Lot S)) (test : Label → Bool) (old new : Boxes) : Type 0 where
  pub settled : (id : ℕ) (l : Lot S) → slice_get lots (id / 16) ≡ Some l → test l.id ≡ true → is_some (box_at old id) ≡ is_some (slice_get (boxes_for y l) (id % 16)) → box_at new id ≡ slice_get (boxes_for y l) (id % 16)
  pub kept : (id : ℕ) (l : Lot S) → slice_get lots (id / 16) ≡ Some l → test l.id ≡ false → box_at new id ≡ box_at old id
  pub rest : (id : ℕ) → length lots * 16 ≤ id → box_at new id ≡ box_at old id

-- in the index of each layer: lots that pass the test have their boxes, if they had equally many, and all else is as it was
abbrev pub AreSettled : {S : Type 0} → List (Lot S) → (Label → Bool) → (Label → Boxes) → (Label → Boxes) → Type 0
AreSettled lots test old new = (y : Label) → AreSettledAt y lots test (old y) (new y)

-- the history has the lots without their parts, and the indexes of their layers have their boxes
pub record AreKeptIn (history : List (Lot (Unit {0}))) (index : Label → Boxes) (lots : List (Lot (Unit {0}))) : Type 0 where
  pub bare : history ≡ map bare_lot lots
  pub indexed : IsIndexOf lots index
