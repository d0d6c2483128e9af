-- The parts of lots, next to their history.
use Rattle.std.specs.Prelude.{List, [], ◌∷◌}
use Rattle.rp_geometry.specs.sets.Shape.{Part}
use Rattle.rp_model.specs.states.State.{Lot, NewLot}
use Rattle.rp_history.specs.declared.lot.Birth.{Birth}

-- a lot with the given parts
abbrev pub with_parts : {S : Type 0} → Lot S → List Part → Lot S
with_parts l ps = record { id = l.id; layer = l.layer; set = l.set; parts = ps; born = l.born; ended = l.ended; origins = l.origins }

-- lots with their parts, in order
abbrev pub lots_with_parts : {S : Type 0} → List (Lot S) → List (List Part) → List (Lot S)
lots_with_parts [] lists = []
lots_with_parts (l ∷ ls) [] = []
lots_with_parts (l ∷ ls) (ps ∷ lists) = with_parts l ps ∷ lots_with_parts ls lists

-- births with their parts, as new lots
abbrev pub new_lots : List Birth → List (List Part) → List (NewLot (Unit {0}))
new_lots [] lists = []
new_lots (b ∷ births) [] = []
new_lots (b ∷ births) (ps ∷ lists) = record { id = b.id; layer = b.layer; set = tt; parts = ps; origins = b.origins.items } ∷ new_lots births lists
