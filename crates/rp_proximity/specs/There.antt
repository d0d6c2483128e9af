-- Which lots are there at a moment, and which have a point.
use Rattle.std.specs.Prelude.{◌≡◌, ℕ, ◌<◌, ◌^◌, Bool, List, Option, Some, None, slice_get}
use Rattle.std.specs.List.{AllByRecursion}
use Rattle.rp_geometry.specs.Geometry.{RationalPoint}
use Rattle.rp_geometry.specs.sets.Shape.{Part}
use Rattle.rp_geometry.specs.parts.LeastBox.{BoxHoldsCell}
use Rattle.rp_language.specs.Name.{Label}
use Rattle.rp_model.specs.states.State.{Lot, is_live, is_alive_after}
use Rattle.rp_model.specs.commands.Verdict.{Verdict}
use Rattle.rp_model.specs.commands.Parts.{is_in_parts}
use Rattle.rp_proximity.specs.declared.moment.Moment.{Moment}
use Rattle.rp_proximity.specs.declared.moment.Moment.TheVariants.{Now, After}

-- the lot is there at a moment
abbrev pub is_there : {S : Type 0} → Moment → Lot S → Bool
is_there Now = is_live
is_there (After n) = is_alive_after n

-- a moment is now, or after a line of a script
abbrev pub IsLine : Moment → Type 0
IsLine Now = Unit {0}
IsLine (After n) = n < 2 ^ 32

-- the verdict for an owner
abbrev pub owner_verdict : Option Label → Verdict
owner_verdict None = Verdict.nobody
owner_verdict (Some x) = Verdict.parcel x

-- the test says of each lot whether it has the point
abbrev pub KnowsOwners : {S : Type 0} → (ℕ → Bool) → List (Lot S) → RationalPoint → Type 0
KnowsOwners {S} has lots p = (k : ℕ) (l : Lot S) → slice_get lots k ≡ Some l → has k ≡ is_in_parts l.parts p

-- the box of each part contains its members
abbrev pub BoxesHold : {S : Type 0} → List (Lot S) → Type 0
BoxesHold lots = AllByRecursion (λ l. AllByRecursion (λ (q : Part). BoxHoldsCell q.bounds q.cell) l.parts) lots
