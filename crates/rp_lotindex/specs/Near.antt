-- The lots that may meet a list of parts, found by the boxes of lots.
use Rattle.std.specs.Prelude.{◌≡◌, ℕ, ◌/◌, ◌==◌, Bool, true, false, ◌&&◌, nat_le, List, [], ◌∷◌, ◌++◌, map, filter, drop}
use Rattle.std.specs.List.{list_any}
use Rattle.rp_geometry.specs.Geometry.{IntegerBox}
use Rattle.rp_geometry.specs.sets.Shape.{Part}
use Rattle.rp_language.specs.Name.{Label}
use Rattle.rp_model.specs.states.State.{Lot}
use Rattle.rp_boxindex.specs.Boxes.{Boxes}
use Rattle.rp_boxindex.specs.Meeting.{meeting_ids}
use Rattle.rp_proximity.specs.declared.reach.Reach.{Reach}
use Rattle.rp_proximity.specs.declared.reach.Reach.TheVariants.{Overlap, Touch}
use Rattle.rp_proximity.specs.Near.{others_in, is_near, lots_at, is_other_at}
use Rattle.rp_lotindex.specs.Indexed.{boxes_of_parts, AreKeptIn}
use Rattle.rp_lotindex.specs.Cubes.{live_number, in_turns}

-- the search is of closed boxes: they may share boundary only
abbrev pub is_closed : Reach → Bool
is_closed Overlap = false
is_closed Touch = true

-- the places, from one on, of the lots of which a box meets the given box
abbrev pub places_by : Reach → ℕ → Boxes → IntegerBox → List ℕ
places_by r from boxes b = filter (λ k. nat_le from k) (map (λ id. id / 16) (meeting_ids (is_closed r) b boxes))

-- the places, from one on, of the lots of which a box meets one of the given boxes, box by box
abbrev pub places_each : Reach → ℕ → Boxes → List IntegerBox → List ℕ
places_each r from boxes [] = []
places_each r from boxes (b ∷ bs) = places_by r from boxes b ++ places_each r from boxes bs

-- the places, from one on, of the lots of which a box meets one of the given boxes, each moved in each turn into the cube of live lots
abbrev pub places_met : Reach → ℕ → Boxes → List IntegerBox → List ℕ
places_met r from boxes [] = []
places_met r from boxes (b ∷ bs) = places_each r from boxes (in_turns live_number b) ++ places_met r from boxes bs

-- the number is in the list
abbrev pub is_listed : ℕ → List ℕ → Bool
is_listed k ks = list_any (λ i. i == k) ks

-- the places are those, from one on, of the live lots of the layer with another id, of which a box in the index meets one of the given boxes
abbrev pub AreOthers : {S : Type 0} → Reach → List IntegerBox → Label → Label → ℕ → List (Lot S) → (Label → Boxes) → List ℕ → Type 0
AreOthers r bs y x from history index places = (k : ℕ) → is_listed k places ≡ (is_listed k (places_met r from (index y) bs) && is_other_at y x history k)

-- for all lots of the history and the indexes: the lots at the places that may meet the given parts are exactly those that may among the live lots of the layer, from a place on, with another id; both in order
abbrev pub AreNear : Reach → List IntegerBox → Label → Label → ℕ → List (Lot (Unit {0})) → (Label → Boxes) → List ℕ → Type 0
AreNear r bs y x from history index places =
    (lots : List (Lot (Unit {0}))) (ps : List Part) → AreKeptIn history index lots → bs ≡ boxes_of_parts ps → filter (is_near r ps) (lots_at lots places) ≡ filter (is_near r ps) (others_in y x (drop from lots))
