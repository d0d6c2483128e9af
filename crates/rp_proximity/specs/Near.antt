-- The lots that may meet a list of parts.
use Rattle.std.specs.Prelude.{ℕ, ◌<◌, ◌==◌, Bool, false, ◌&&◌, not, List, [], ◌∷◌, ◌++◌, length, Some, None, slice_get}
use Rattle.std.specs.List.{AllByRecursion}
use Rattle.std.specs.Option.{option_to_list}
use Rattle.rp_geometry.specs.sets.Shape.{Part}
use Rattle.rp_language.specs.Name.{Label, label_eq}
use Rattle.rp_semantics.specs.Form.{near_pair, touching_pair}
use Rattle.rp_model.specs.states.State.{Lot, is_live, live_lots, lots_of_layer, other_lots}
use Rattle.rp_model.specs.commands.Parts.{count_pairs, count_with_each, lot_parts}
use Rattle.rp_proximity.specs.declared.reach.Reach.{Reach}
use Rattle.rp_proximity.specs.declared.reach.Reach.TheVariants.{Overlap, Touch}

-- the boxes of two parts let them meet
abbrev pub may_meet : Reach → Part → Part → Bool
may_meet Overlap = near_pair
may_meet Touch = touching_pair

-- the live lots of a layer that have another id, in order
abbrev pub others_in : {S : Type 0} → Label → Label → List (Lot S) → List (Lot S)
others_in y x lots = other_lots x (lots_of_layer y (live_lots lots))

-- the number of pairs of a part of a list and a part of a lot that may meet
abbrev pub pairs_with : {S : Type 0} → Reach → List Part → List (Lot S) → ℕ
pairs_with r ps lots = count_with_each (may_meet r) ps (lot_parts lots)

-- some part of the lot may meet some part of the list
abbrev pub is_near : {S : Type 0} → Reach → List Part → Lot S → Bool
is_near r ps l = not (count_pairs (may_meet r) ps l.parts == 0)

-- the lots at the given places, in order
abbrev pub lots_at : {S : Type 0} → List (Lot S) → List ℕ → List (Lot S)
lots_at lots [] = []
lots_at lots (k ∷ ks) = option_to_list (slice_get lots k) ++ lots_at lots ks

-- all places are within the list
abbrev pub AreWithin : {A : Type 0} → List A → List ℕ → Type 0
AreWithin xs ks = AllByRecursion (λ k. k < length xs) ks

-- the lot is live, of the layer and has another id
abbrev pub is_other_in : {S : Type 0} → Label → Label → Lot S → Bool
is_other_in y x l = is_live l && (label_eq l.layer y && not (label_eq x l.id))

-- the lot at a place is live, of the layer and has another id
abbrev pub is_other_at : {S : Type 0} → Label → Label → List (Lot S) → ℕ → Bool
is_other_at y x lots k = elim (slice_get lots k) [ None ↦ false | Some l ↦ is_other_in y x l ]
