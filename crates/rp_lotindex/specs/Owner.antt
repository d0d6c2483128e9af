-- The owner of a point.
use Rattle.std.specs.Prelude.{◌≡◌, ℕ, Bool, false, ◌&&◌, cond, nat_lt, List, [], ◌∷◌, ◌++◌, map, filter, Option, Some, None, slice_get}
use Rattle.rp_geometry.specs.Geometry.{RationalPoint, IntegerBox}
use Rattle.rp_language.specs.Name.{Label, label_eq}
use Rattle.rp_model.specs.states.State.{Lot, lots_of_layer, bare_lot}
use Rattle.rp_model.specs.commands.At.{owner_line}
use Rattle.rp_boxindex.specs.Boxes.{Boxes}
use Rattle.rp_boxindex.specs.Meeting.{first_that, meeting_ids}
use Rattle.rp_proximity.specs.declared.moment.Moment.{Moment}
use Rattle.rp_proximity.specs.There.{is_there, owner_verdict, KnowsOwners, BoxesHold}
use Rattle.rp_lotindex.specs.declared.stretch.Stretch.{Stretch}
use Rattle.rp_proximity.specs.declared.moment.Moment.TheVariants.{Now, After}
use Rattle.rp_lotindex.specs.Indexed.{IsIndexOf}
use Rattle.rp_lotindex.specs.Cubes.{live_number, past_number, in_turns}
use Rattle.rp_lotindex.specs.Stretches.{stretches_with}

-- the lot at a place is there at a moment, and of the layer
abbrev pub is_there_at : {S : Type 0} → Moment → Label → List (Lot S) → ℕ → Bool
is_there_at m y lots k = elim (slice_get lots k) [ None ↦ false | Some l ↦ is_there m l && label_eq l.layer y ]

-- a box, in each turn moved into the cube for each of some stretches
abbrev pub boxes_past : IntegerBox → List Stretch → List IntegerBox
boxes_past unit [] = []
boxes_past unit (s ∷ stretches) = in_turns (past_number s) unit ++ boxes_past unit stretches

-- the boxes to search for the lots that are there at a moment: now in the cubes of live lots; after a line also in those of its stretches
abbrev pub boxes_asked : Moment → IntegerBox → List IntegerBox
boxes_asked Now unit = in_turns live_number unit
boxes_asked (After n) unit = in_turns live_number unit ++ boxes_past unit (stretches_with n)

-- the lesser of two numbers; if one is missing, the other
abbrev pub lesser_of : Option ℕ → Option ℕ → Option ℕ
lesser_of None p = p
lesser_of (Some i) None = Some i
lesser_of (Some i) (Some k) = cond (nat_lt k i) (Some k) (Some i)

-- the least of a number and of the ids that pass a test and whose boxes meet one of the given boxes
abbrev pub first_in : (ℕ → Bool) → Boxes → List IntegerBox → Option ℕ → Option ℕ
first_in passes boxes [] o = o
first_in passes boxes (b ∷ bs) o = first_in passes boxes bs (lesser_of o (first_that passes (meeting_ids false b boxes)))

-- for all lots of the history and the indexes: the owner is the first lot of the layer that is there at the moment and has the point
abbrev pub IsOwner : (ℕ → Bool) → Label → Moment → RationalPoint → List (Lot (Unit {0})) → (Label → Boxes) → Option Label → Type 0
IsOwner has y m p history index owner =
    (lots : List (Lot (Unit {0}))) → history ≡ map bare_lot lots → IsIndexOf lots index → BoxesHold lots → KnowsOwners has lots p → owner_verdict owner ≡ owner_line (lots_of_layer y (filter (is_there m) lots)) p
