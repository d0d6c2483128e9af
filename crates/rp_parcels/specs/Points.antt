-- The owner of a point.
use Rattle.std.specs.Prelude.{◌≡◌, Bool, ◌&&◌, IsTrue, ◌↔◌, List, Option, Some}
use Rattle.std.specs.List.{list_any}
use Rattle.rp_geometry.specs.Geometry.{RationalPoint, IsPoint}
use Rattle.rp_language.specs.Name.{Label, label_eq}
use Rattle.rp_model.specs.states.State.{Lot}
use Rattle.rp_model.specs.commands.Parts.{is_in_parts}

-- the lot with the id is among the lots, and has the point
abbrev pub has_point : {S : Type 0} → List (Lot S) → RationalPoint → Label → Bool
has_point lots p x = list_any (λ l. label_eq l.id x && is_in_parts l.parts p) lots

-- the lots that have the point are only the one with the given id; none if no id is given
abbrev pub IsOnlyOwner : {S : Type 0} → List (Lot S) → RationalPoint → Option Label → Type 0
IsOnlyOwner lots p o = IsPoint p → (x : Label) → IsTrue (has_point lots p x) ↔ (o ≡ Some x)
