-- The changes that the state accepts.
use Rattle.std.specs.Prelude.{ℕ}
use Rattle.rp_geometry.specs.sets.Shape.{Part}
use Rattle.rp_model.specs.states.State.{Change, PlainState, changed, state_of_parts}
use Rattle.rp_model.specs.states.Sound.{IsSoundWith}
use Rattle.rp_register_state.specs.Kept.{ComesFromKnown}

-- the change at line n leads to a sound state, and the origins of the lots that are born are in the state
pub record IsTaken (P : Part → Type 0) (n : ℕ) (p : PlainState) (d : Change (Unit {0})) : Type 0 where
  pub sound : IsSoundWith P (state_of_parts (changed n p d))
  pub known : ComesFromKnown p d
