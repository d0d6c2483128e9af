-- The parts of lots: their points, their pairs, and lots made of them.
use Rattle.std.specs.List.{list_any}
use Rattle.std.specs.Prelude.{ℕ, ◌+◌, Bool, List, [], ◌∷◌, ◌++◌, map, sum_by, count_by, option_map}
use Rattle.rp_geometry.specs.Geometry.{RationalPoint, is_in_cell}
use Rattle.rp_geometry.specs.sets.Shape.{Shape, Part, shape_of_parts}
use Rattle.rp_language.specs.Expression.{Meaning}
use Rattle.rp_language.specs.Name.{Label}
use Rattle.rp_semantics.specs.Form.{parts_or_none}
use Rattle.rp_model.specs.states.State.{Lot, StateOf, live_lot, parts_of_lot, NewLot}

-- the point is in one of the parts
abbrev pub is_in_parts : List Part → RationalPoint → Bool
is_in_parts parts p = list_any (λ part. is_in_cell part.cell p) parts

-- the meaning of names and lots as shapes: the shapes of their parts
abbrev pub shapes_of_parts : Meaning (List Part) → Meaning Shape
shapes_of_parts m = record { of_name = λ x. option_map shape_of_parts (m.of_name x); of_lot = λ x. option_map shape_of_parts (m.of_lot x) }

-- the number of pairs of parts of two lists that pass a choice
abbrev pub count_pairs : (Part → Part → Bool) → List Part → List Part → ℕ
count_pairs chosen ps qs = sum_by (λ p. count_by (λ q. chosen p q) qs) ps

-- the number of pairs of parts of a list and of each of several lists that pass a choice
abbrev pub count_with_each : (Part → Part → Bool) → List Part → List (List Part) → ℕ
count_with_each chosen ps lists = sum_by (λ qs. count_pairs chosen ps qs) lists

-- the number of pairs of parts of each two lists that pass a choice
abbrev pub count_among : (Part → Part → Bool) → List (List Part) → ℕ
count_among chosen [] = 0
count_among chosen (ps ∷ lists) = count_with_each chosen ps lists + count_among chosen lists

-- lists of parts with their numbers, from k on
abbrev pub numbered_lists : ℕ → List (List Part) → List (ℕ × List Part)
numbered_lists k [] = []
numbered_lists k (ps ∷ lists) = (k, ps) ∷ numbered_lists (k + 1) lists

-- the lists of parts of lots, in order
abbrev pub lot_parts : {S : Type 0} → List (Lot S) → List (List Part)
lot_parts ls = map (λ l. l.parts) ls

-- the parts of the live lot with an id; none if the id is not live
abbrev pub parts_with_id : {S : Type 0} → StateOf S → Label → List Part
parts_with_id s x = parts_or_none (parts_of_lot (live_lot x s.lots))

-- the lists, one after another, as one list
abbrev pub joined_parts : List (List Part) → List Part
joined_parts [] = []
joined_parts (ps ∷ lists) = ps ++ joined_parts lists

-- a new lot of the layer y with the id x, made of parts
abbrev pub new_lot : Label → Label → List Part → List Label → NewLot (Unit {0})
new_lot y x ps origins = record { id = x; layer = y; set = tt; parts = ps; origins = origins }
