-- What names and lots stand for in a sound state is short.
use Rattle.std.proofs.Common.{◌≤◌, Bool, true, false, cond, List, [], ◌∷◌, map, length, Option, Some, None}
use Rattle.std.specs.Prelude.{IfSome}
use Rattle.std.specs.List.{AllByRecursion}
use Rattle.rp_geometry.specs.sets.Shape.{Shape, Part}
use Rattle.rp_geometry.specs.parts.Parts.{IsCheckedPart, AreOf, AreParts, most_parts}
use Rattle.rp_language.specs.Name.{Label, label_eq}
use Rattle.rp_model.specs.states.State.{Kept, Lot, PlainState, kept_of_parts, lot_of_parts, parts_in, is_live, live_lots, lot_with_id, kept_named, parts_of_kept, parts_of_lot}
use Rattle.rp_oracle.specs.Short.{StandShort}
use Rattle.rp_register_state.specs.Kept.{IsSoundByParts}

-- what is kept under a name
name_found : (x : Label) (ks : List (Kept (Unit {0}))) → AllByRecursion (λ (k : Kept Shape). AreOf IsCheckedPart k.set k.parts) (map kept_of_parts ks) → IfSome (parts_of_kept (kept_named x ks)) (AreParts IsCheckedPart)
name_found x [] h = tt
name_found x (k ∷ ks) h = by (label_eq x k.name) (name_found x ks h.1)
  where
    by : (b : Bool) → IfSome (parts_of_kept (kept_named x ks)) (AreParts IsCheckedPart) → IfSome (parts_of_kept (elim b as (λ _. Option (Kept (Unit {0}))) [ true ↦ Some k | false ↦ kept_named x ks ])) (AreParts IsCheckedPart)
    by true later = h.0.all
    by false later = later

-- what a live lot has
lot_found : (x : Label) (ls : List (Lot (Unit {0}))) → AllByRecursion (λ (l : Lot Shape). AreOf IsCheckedPart l.set l.parts) (map lot_of_parts ls) → IfSome (parts_of_lot (lot_with_id x (live_lots ls))) (AreParts IsCheckedPart)
lot_found x [] h = tt
lot_found x (l ∷ ls) h = by (is_live l) (lot_found x ls h.1)
  where
    here : (b : Bool) → IfSome (parts_of_lot (lot_with_id x (live_lots ls))) (AreParts IsCheckedPart) → IfSome (parts_of_lot (elim b as (λ _. Option (Lot (Unit {0}))) [ true ↦ Some l | false ↦ lot_with_id x (live_lots ls) ])) (AreParts IsCheckedPart)
    here true later = h.0.all
    here false later = later

    by : (b : Bool) → IfSome (parts_of_lot (lot_with_id x (live_lots ls))) (AreParts IsCheckedPart) → IfSome (parts_of_lot (lot_with_id x (cond b (l ∷ live_lots ls) (live_lots ls)))) (AreParts IsCheckedPart)
    by true later = here (label_eq x l.id) later
    by false later = later

-- what is kept is short
short_if : (o : Option (List Part)) → IfSome o (AreParts IsCheckedPart) → IfSome o (λ ps. length ps ≤ most_parts)
short_if None h = tt
short_if (Some ps) h = h.few

-- names and live lots stand for short lists of parts
pub stand_short : (s : PlainState) → IsSoundByParts s → StandShort (parts_in s)
stand_short s sound = record {
  names = λ x. short_if ((parts_in s).of_name x) (name_found x s.names sound.names_keep_parts);
  lots = λ x. short_if ((parts_in s).of_lot x) (lot_found x s.lots sound.lots_keep_parts);
}

-- each lot has few parts
pub all_short : (lots : List (Lot (Unit {0}))) → AllByRecursion (λ l. AreOf IsCheckedPart l.set l.parts) (map lot_of_parts lots) → AllByRecursion (λ l. length l.parts ≤ most_parts) lots
all_short [] h = tt
all_short (l ∷ ls) h = (h.0.all.few, all_short ls h.1)
