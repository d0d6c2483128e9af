-- Lots behind a place.
use Rattle.std.proofs.Common.{◌≡◌, ℕ, zero, suc, ◌+◌, ◌<◌, List, [], ◌∷◌, length, drop, Some, slice_get, sym, subst}
use Rattle.std.specs.Prelude.{IsTrue}
use Rattle.std.proofs.lemmas.Option.{get_or_from_slice_get}
use Rattle.rp_algebra.proofs.Lists.{drop_item}
use Rattle.rp_model.specs.states.State.{Lot, live_lots, lots_of_layer, ids_of}
use Rattle.rp_model.specs.states.Sound.{are_distinct}
use Rattle.rp_history.proofs.Found.{first_alone, rest_distinct}
use Rattle.rp_proximity.specs.Near.{others_in}
use Rattle.rp_proximity.proofs.Skipped.{others_all}

-- what is left of a list begins with the lot at the place
pub left_at : (lots : List (Lot (Unit {0}))) (k : ℕ) (l : Lot (Unit {0})) → k < length lots → slice_get lots k ≡ Some l → drop k lots ≡ l ∷ drop (k + 1) lots
left_at lots k l within at = drop_item lots k l within (sym (get_or_from_slice_get lots k l l at))

-- ids stay distinct
distinct_left : (k : ℕ) (lots : List (Lot (Unit {0}))) → IsTrue (are_distinct (ids_of lots)) → IsTrue (are_distinct (ids_of (drop k lots)))
distinct_left zero lots d = d
distinct_left (suc k) [] d = d
distinct_left (suc k) (l ∷ lots) d = distinct_left k lots (rest_distinct l lots d)

-- the others behind a lot are all lots of its layer there
pub others_behind : (lots : List (Lot (Unit {0}))) → IsTrue (are_distinct (ids_of lots)) → (k : ℕ) (l : Lot (Unit {0})) → k < length lots → slice_get lots k ≡ Some l → others_in l.layer l.id (drop (k + 1) lots) ≡ lots_of_layer l.layer (live_lots (drop (k + 1) lots))
others_behind lots distinct k l within at =
    others_all l.layer l.id (drop (k + 1) lots)
    (first_alone l (drop (k + 1) lots) (subst (λ (ls : List (Lot (Unit {0}))). IsTrue (are_distinct (ids_of ls))) (left_at lots k l within at) (distinct_left k lots distinct)))
