-- Lots at places, one after the other.
use Rattle.std.proofs.Common.{◌≡◌, ℕ, zero, suc, ◌+◌, ◌<◌, Bool, false, List, [], ◌∷◌, ◌++◌, map, length, drop, get_or, Option, Some, None, slice_get, ap, ◌∙◌, subst, sym, arith}
use Rattle.std.specs.Option.{option_to_list}
use Rattle.std.specs.Prelude.{option_map}
use Rattle.std.proofs.lemmas.List.{get_or_default, length-map}
use Rattle.std.proofs.lemmas.Option.{slice_get-map, slice_get_read}
use Rattle.rp_algebra.proofs.Lists.{drop_item}
use Rattle.rp_language.specs.Name.{Label}
use Rattle.rp_model.specs.states.State.{Lot}
use Rattle.rp_history.specs.declared.lot.LotLine.{LotLine}
use Rattle.rp_history.specs.Lots.{lot_of}
use Rattle.rp_proximity.specs.Near.{is_other_in, is_other_at, lots_at, AreWithin}

-- a place of a list is within
pub place_within : {A : Type 0} (lots : List A) (places : List ℕ) → AreWithin lots places → (i k : ℕ) → i < length places → k ≡ get_or places i 0 → k < length lots
place_within lots [] h i k f e = absurd (omega arith)
place_within lots (p ∷ places) h zero k f e = subst (λ (n : ℕ). n < length lots) (sym e) h.0
place_within lots (p ∷ places) h (suc i) k f e = place_within lots places h.1 i k (omega arith) e

-- the lots of the places still to come begin with that of the next
pub lots_left : (lots : List (Lot (Unit {0}))) (places : List ℕ) (i k : ℕ) (l : Lot (Unit {0})) → i < length places → k ≡ get_or places i 0 → slice_get lots k ≡ Some l → lots_at lots (drop i places) ≡ l ∷ lots_at lots (drop (i + 1) places)
lots_left lots places i k l h e at = ap (lots_at lots) (drop_item places i k h (e ∙ get_or_default places i 0 k h)) ∙ ap (λ (o : Option (Lot (Unit {0}))). option_to_list o ++ lots_at lots (drop (i + 1) places)) at

-- the line of a lot that is one of the others
pub other_line : (y x : Label) (history : List (Lot (Unit {0}))) (lines : List LotLine) → map lot_of lines ≡ history → (k : ℕ) (line : LotLine) → k < length history → line ≡ get_or lines k line → is_other_at y x history k ≡ is_other_in y x (lot_of line)
other_line y x history lines e k line within is =
    let many : length history ≡ length lines = sym (ap length e) ∙ length-map lines lot_of in
    ap (test_of y x) (ap (λ (ls : List (Lot (Unit {0}))). slice_get ls k) (sym e) ∙ slice_get-map lot_of lines k ∙ ap (option_map lot_of) (slice_get_read lines (length history) k line many within is))
  where
    test_of : Label → Label → Option (Lot (Unit {0})) → Bool
    test_of y x o = elim o [ None ↦ false | Some l ↦ is_other_in y x l ]
