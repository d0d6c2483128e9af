-- Names and lots as they are stored, with lists of parts.
use Rattle.std.specs.Prelude.{◌≡◌, ℕ, ◌+◌, ◌≤◌, Bool, false, IsTrue, List, map, length, Some, None, slice_get}
use Rattle.rp_geometry.specs.Geometry.{RationalPoint}
use Rattle.rp_geometry.specs.sets.Shape.{Part}
use Rattle.rp_language.specs.Name.{Label, is_among}
use Rattle.rp_model.specs.states.State.{Kept, Lot, PlainState, names_of, ids_of, bare_lot, parts_under_names, parts_under_lots, most_names, most_kept_parts}
use Rattle.rp_model.specs.states.Sound.{are_distinct}
use Rattle.rp_model.specs.commands.Parts.{is_in_parts}
use Rattle.rp_history.specs.Parts.{lots_with_parts}
use Rattle.rp_boxindex.specs.Boxes.{Boxes}
use Rattle.rp_lotindex.specs.Indexed.{IsIndexOf}

-- ---- names

-- the names and the number of parts are within their limits, and the parts are counted
pub record AreNamed (parts : ℕ) (ks : List (Kept (Unit {0}))) : Type 0 where
  pub few_names : length ks ≤ most_names
  pub few_parts : parts_under_names ks ≤ most_kept_parts
  pub count : parts ≡ parts_under_names ks

-- the name is new, and there is room for it and its parts
pub record IsNewName (ks : List (Kept (Unit {0}))) (x : Label) (ps : List Part) : Type 0 where
  pub fresh : is_among x (names_of ks) ≡ false
  pub few_names : length ks + 1 ≤ most_names
  pub few_parts : parts_under_names ks + length ps ≤ most_kept_parts

-- ---- lots

-- the lots and the number of all their parts are within their limits
pub record AreFew (lots : List (Lot (Unit {0}))) : Type 0 where
  pub few_lots : length lots ≤ most_kept_parts
  pub few_parts : parts_under_lots lots ≤ most_kept_parts

-- the history and the lists of parts make lots within their limits, with distinct ids, counted parts, and boxes in the indexes of their layers
pub record AreLots (history : List (Lot (Unit {0}))) (lists : List (List Part)) (parts : ℕ) (index : Label → Boxes) : Type 0 where
  pub each : length history ≡ length lists
  pub bare : map bare_lot history ≡ history
  pub distinct : IsTrue (are_distinct (ids_of history))
  pub count : parts ≡ parts_under_lots (lots_with_parts history lists)
  pub few : AreFew (lots_with_parts history lists)
  pub indexed : IsIndexOf (lots_with_parts history lists) index

-- the list at a place, if there is one, has the point
abbrev pub has_point : List (List Part) → RationalPoint → ℕ → Bool
has_point lists p k = elim (slice_get lists k) [ None ↦ false | Some ps ↦ is_in_parts ps p ]

-- ---- a state

-- the state with the given layer, names and lots
abbrev pub state_with : Label → List (Kept (Unit {0})) → List (Lot (Unit {0})) → PlainState
state_with y ks lots = record { layer = y; names = ks; lots = lots }
