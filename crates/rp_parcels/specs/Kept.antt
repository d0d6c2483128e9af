-- The contents of a register.
use Rattle.std.specs.Prelude.{List, []}
use Rattle.rp_model.specs.states.State.{Lot, state_of_parts}
use Rattle.rp_model.specs.states.Sound.{IsSound}
use Rattle.rp_history.specs.Lots.{lots_in}

-- the lots are those of a sound state
abbrev pub AreSound : List (Lot (Unit {0})) → Type 0
AreSound lots = IsSound (state_of_parts (lots_in [] lots))
