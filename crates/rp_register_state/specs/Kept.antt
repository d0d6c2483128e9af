-- The state between two lines.
use Rattle.std.specs.Prelude.{IsTrue}
use Rattle.std.specs.List.{AllByRecursion}
use Rattle.rp_geometry.specs.parts.Parts.{IsCheckedPart}
use Rattle.rp_language.specs.Name.{is_among}
use Rattle.rp_model.specs.states.State.{NewLot, Change, nothing_changes, name_added, lots_replaced, layer_changed, PlainState, state_of_parts, ids_of}
use Rattle.rp_model.specs.states.Sound.{IsSoundWith}

-- a state of parts that is sound with the shapes of its parts as its sets
abbrev pub IsSoundByParts : PlainState → Type 0
IsSoundByParts s = IsSoundWith IsCheckedPart (state_of_parts s)

-- the origins of lots that are born are in the state
abbrev pub ComesFromKnown : PlainState → Change (Unit {0}) → Type 0
ComesFromKnown s nothing_changes = Unit {0}
ComesFromKnown s (name_added k) = Unit {0}
ComesFromKnown s (layer_changed y) = Unit {0}
ComesFromKnown s (lots_replaced ids new) = AllByRecursion (λ (a : NewLot (Unit {0})). AllByRecursion (λ x. IsTrue (is_among x (ids_of s.lots))) a.origins) new
