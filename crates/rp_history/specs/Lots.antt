-- The contents of a history: the lots that were ever registered, without their parts.
use Rattle.std.specs.Prelude.{◌≡◌, ℕ, ◌<◌, false, IsTrue, List, [], map, IfSome}
use Rattle.std.specs.List.{AllByRecursion}
use Rattle.rp_language.specs.Name.{Label, is_among}
use Rattle.rp_model.specs.states.State.{Lot, NewLot, StateOf, Change, changed, ids_of}
use Rattle.rp_model.specs.states.Sound.{are_distinct, OriginsStandBefore}
use Rattle.rp_history.specs.declared.lot.LotLine.{LotLine}
use Rattle.rp_history.specs.declared.lot.Birth.{Birth}

-- an entry of a history, as a lot without parts
abbrev pub lot_of : LotLine → Lot (Unit {0})
lot_of l = record { id = l.id; layer = l.layer; set = tt; parts = []; born = l.born; ended = l.ended; origins = l.origins.items }

-- a birth, as a new lot without parts
abbrev pub new_lot_of : Birth → NewLot (Unit {0})
new_lot_of b = record { id = b.id; layer = b.layer; set = tt; parts = []; origins = b.origins.items }

-- a state of lots alone, with a present layer
abbrev pub lots_in : {S : Type 0} → Label → List (Lot S) → StateOf S
lots_in y lots = record { layer = y; names = []; lots = lots }

-- the lots after a change by line n
abbrev pub lots_after : {S : Type 0} → ℕ → List (Lot S) → Change S → List (Lot S)
lots_after n lots c = (changed n (lots_in [] lots) c).lots

-- all lots were born before line n
abbrev pub AreBornBefore : {S : Type 0} → ℕ → List (Lot S) → Type 0
AreBornBefore n lots = AllByRecursion (λ l. l.born < n) lots

-- no id occurs twice, every end is above its birth, and origins come before the lots that were made from them
pub record AreKeptWell {S : Type 0} (lots : List (Lot S)) : Type 0 where
  pub distinct : IsTrue (are_distinct (ids_of lots))
  pub ends_after_birth : AllByRecursion (λ l. IfSome l.ended (λ m. l.born < m)) lots
  pub origins_before : OriginsStandBefore [] lots

-- new lots have new and distinct ids, and their origins are among the lots
pub record AreNew {S : Type 0} (lots : List (Lot S)) (new : List (NewLot S)) : Type 0 where
  pub fresh : AllByRecursion (λ a. is_among a.id (ids_of lots) ≡ false) new
  pub distinct : IsTrue (are_distinct (map (λ a. a.id) new))
  pub origins : AllByRecursion (λ a. AllByRecursion (λ x. IsTrue (is_among x (ids_of lots))) a.origins) new
