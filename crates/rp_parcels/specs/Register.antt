-- The questions to a register, and the changes of its lots.
use Rattle.std.specs.Prelude.{ℕ, List, []}
use Rattle.rp_language.specs.Name.{Label}
use Rattle.rp_model.specs.states.State.{Lot, NewLot, lots_replaced, state_of_parts}
use Rattle.rp_model.specs.states.Sound.{IsLaterThan}
use Rattle.rp_model.specs.commands.Subdivide.{FormedChild}
use Rattle.rp_history.specs.Lots.{lots_in, lots_after, AreNew}
use Rattle.rp_parcels.specs.declared.child.Child.{Child}
use Rattle.rp_parcels.specs.Kept.{AreSound}

-- line n is above every birth and every end
abbrev pub IsLater : ℕ → List (Lot (Unit {0})) → Type 0
IsLater n lots = IsLaterThan n (state_of_parts (lots_in [] lots))

-- a child of a subdivision of the code, as one of the model
abbrev pub child_of : Child → FormedChild
child_of c = record { id = c.id; parts = c.region }

-- lots may end, and others be born in their place, at line n: the new ids are new, and the lots are sound afterwards
pub record IsFitChange (n : ℕ) (lots : List (Lot (Unit {0}))) (ids : List Label) (new : List (NewLot (Unit {0}))) : Type 0 where
  pub fresh : AreNew lots new
  pub sound : AreSound (lots_after n lots (lots_replaced ids new))
