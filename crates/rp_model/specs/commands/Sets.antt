-- The sets of expressions and ids.
use Rattle.std.specs.Prelude.{List, [], ◌∷◌, unwrap_or}
use Rattle.rp_geometry.specs.sets.Shape.{Shape}
use Rattle.rp_language.specs.Expression.{Expression, resolve_names}
use Rattle.rp_language.specs.Name.{Label}
use Rattle.rp_model.specs.states.State.{live_lot, NewLot, State, sets_in, set_of_lot}

-- the set of an expression
abbrev pub set_of : State → Expression → Shape
set_of s e = resolve_names (sets_in s) e

-- the set of a live lot; the empty set if there is none
abbrev pub set_with_id : State → Label → Shape
set_with_id s x = unwrap_or (set_of_lot (live_lot x s.lots)) Shape.nothing

-- the union of a list of sets
abbrev pub union_of : List Shape → Shape
union_of [] = Shape.nothing
union_of (a ∷ []) = a
union_of (a ∷ b ∷ sets) = Shape.union a (union_of (b ∷ sets))

-- a new lot of the layer y with the set a, without its parts
abbrev pub lot_of_set : Label → Label → Shape → List Label → NewLot Shape
lot_of_set y x a origins = record { id = x; layer = y; set = a; parts = []; origins = origins }
