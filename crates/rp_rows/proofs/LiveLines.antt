-- The lines of the live lots, by their places.
use Rattle.std.proofs.Common.{◌≡◌, ℕ, ◌+◌, Bool, true, false, ◌&&◌, cond, List, [], ◌∷◌, ◌++◌, drop, Option, Some, None, slice_get, option_to_list, refl, ap, ◌∙◌, append_assoc}
use Rattle.rp_model.specs.states.State.{Lot, is_live, live_lots}
use Rattle.rp_model.specs.commands.Verdict.{Verdict, lot_lines}
use Rattle.rp_history.specs.Places.{live_places}
use Rattle.rp_history.proofs.Places.{left_further}
use Rattle.rp_proximity.specs.Near.{lots_at}

-- the line of a lot, and those of further ones
pub line_more : (lines : List Verdict) (v : Verdict) (l : Lot (Unit {0})) (ls : List (Lot (Unit {0}))) → v ∷ [] ≡ lot_lines (l ∷ []) → (lines ++ v ∷ []) ++ lot_lines ls ≡ lines ++ lot_lines (l ∷ ls)
line_more lines v l ls e = append_assoc lines (v ∷ []) (lot_lines ls) ∙ ap (λ (vs : List Verdict). lines ++ (vs ++ lot_lines ls)) e

-- the live lots stand at their places
pub live_at : (history : List (Lot (Unit {0}))) (k : ℕ) (ls : List (Lot (Unit {0}))) → drop k history ≡ ls → lots_at history (live_places None k ls) ≡ live_lots ls
live_at history k [] e = refl
live_at history k (l ∷ ls) e =
    let left = left_further history k l ls e in
    by (is_live l) left.0 (live_at history (k + 1) ls left.1)
  where
    places : List ℕ
    places = live_places None (k + 1) ls

    by : (b : Bool) → slice_get history k ≡ Some l → lots_at history places ≡ live_lots ls → lots_at history (cond (b && true) (k ∷ places) places) ≡ cond b (l ∷ live_lots ls) (live_lots ls)
    by true at later = ap (λ (o : Option (Lot (Unit {0}))). option_to_list o ++ lots_at history places) at ∙ ap (λ (ms : List (Lot (Unit {0}))). l ∷ ms) later
    by false at later = later
