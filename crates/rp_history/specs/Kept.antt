-- The stored form of a list of lots: its spare capacity, and next to it the ids and the indexes of the live lots.
use Rattle.std.specs.Prelude.{◌≡◌, ℕ, None, IsTrue, List}
use Rattle.rp_language.specs.Name.{Label}
use Rattle.rp_model.specs.states.State.{Lot, ids_of}
use Rattle.rp_model.specs.states.Sound.{are_distinct}
use Rattle.rp_history.specs.Places.{live_places}

-- lots, and the number of further lots for which there is room
pub record Roomy : Type 0 where
  pub lots : List (Lot (Unit {0}))
  pub spare : ℕ

-- the keys are the ids of the lots, and no id occurs twice
pub record AreIdsOf (lots : List (Lot (Unit {0}))) (keys : List Label) : Type 0 where
  pub same : keys ≡ ids_of lots
  pub distinct : IsTrue (are_distinct (ids_of lots))

-- the keys are the ids of the lots, and the indexes are those of the live lots
pub record AreFound (lots : List (Lot (Unit {0}))) (keys : List Label) (live : List ℕ) : Type 0 where
  pub ids : AreIdsOf lots keys
  pub places : live ≡ live_places None 0 lots
