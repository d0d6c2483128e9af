-- The boxes of a lot with its parts, moved to where lots stand that lived as long.
use Rattle.std.proofs.Common.{◌≡◌, ℕ, zero, suc, Bool, true, false, cond, List, [], ◌∷◌, length, Some, None, slice_get, refl, sym, ap, ◌∙◌, subst}
use Rattle.std.specs.Prelude.{IsTrue}
use Rattle.rp_geometry.specs.sets.Shape.{Part}
use Rattle.rp_language.specs.Name.{Label, label_eq, is_among}
use Rattle.rp_model.specs.states.State.{Lot, lot_with_id, ids_of}
use Rattle.rp_model.specs.states.Sound.{are_distinct}
use Rattle.rp_states.proofs.Labels.{label_is, label_itself}
use Rattle.rp_history.specs.Parts.{with_parts, lots_with_parts}
use Rattle.rp_history.proofs.Found.{found_has_id, none_found, not_there}
use Rattle.rp_history.proofs.Together.{ids-with_parts}
use Rattle.rp_boxindex.specs.Boxes.{Boxes}
use Rattle.rp_lotindex.specs.Indexed.{boxes_of_parts, boxes_by, OthersStay, IsSettled, AreSettled}
use Rattle.rp_lotindex.proofs.Layers.{settled_apart}
use Rattle.rp_lotindex.proofs.Settled.{place_settled, none_settled}

-- a lot at a place, with its parts
with_parts_at : (ls : List (Lot (Unit {0}))) (lists : List (List Part)) (k : ℕ) (l : Lot (Unit {0})) (ps : List Part) → slice_get ls k ≡ Some l → slice_get lists k ≡ Some ps → slice_get (lots_with_parts ls lists) k ≡ Some (with_parts l ps)
with_parts_at [] lists k l ps e f = absurd (cc)
with_parts_at (m ∷ ls) [] k l ps e f = absurd (cc)
with_parts_at (m ∷ ls) (qs ∷ lists) zero l ps e f = let same : m ≡ l = cc in let own : qs ≡ ps = cc in λ i. Some (with_parts (same i) (own i))
with_parts_at (m ∷ ls) (qs ∷ lists) (suc k) l ps e f = with_parts_at ls lists k l ps e f

module _ (ls : List (Lot (Unit {0}))) (lists : List (List Part)) (each : length ls ≡ length lists) (x : Label) (distinct : IsTrue (are_distinct (ids_of ls))) where
  -- its ids are distinct
  own_distinct : IsTrue (are_distinct (ids_of (lots_with_parts ls lists)))
  own_distinct = subst (λ (xs : List Label). IsTrue (are_distinct xs)) (sym (ids-with_parts ls lists each)) distinct

  -- the lot with the id is found
  pub settled_here : (p : ℕ) (l : Lot (Unit {0})) (ps : List Part) (old new : Label → Boxes) → slice_get ls p ≡ Some l → Some l ≡ lot_with_id x ls → slice_get lists p ≡ Some ps → IsSettled (old l.layer) (new l.layer) p (boxes_by l (boxes_of_parts ps)) → OthersStay l.layer old new → AreSettled (lots_with_parts ls lists) (λ y. label_eq y x) old new
  settled_here p l ps old new at found own h others y =
      place_settled y (lots_with_parts ls lists) x own_distinct p (with_parts l ps) (old y) (new y) (with_parts_at ls lists p l ps at own)
      (subst (λ (z : Label). label_eq l.id z ≡ true) (sym (label_is x l.id (found_has_id x ls l (sym found)))) (label_itself l.id)) (by (label_eq l.layer y) refl)
    where
      by : (b : Bool) → label_eq l.layer y ≡ b → IsSettled (old y) (new y) p (cond b (boxes_by l (boxes_of_parts ps)) [])
      by true e = subst (λ (z : Label). IsSettled (old z) (new z) p (boxes_by l (boxes_of_parts ps))) (label_is l.layer y e) h
      by false e = settled_apart (old y) (new y) p (others y e)

  -- no lot has the id
  pub settled_nowhere : (m : Label → Boxes) → lot_with_id x ls ≡ None → AreSettled (lots_with_parts ls lists) (λ y. label_eq y x) m m
  settled_nowhere m none y =
      none_settled y (lots_with_parts ls lists) x own_distinct (m y)
      (none_found x (lots_with_parts ls lists) (ap (is_among x) (ids-with_parts ls lists each) ∙ not_there x ls none))
