-- The result of a row on fresh work, as the result of a call whose work takes it over.
use Rattle.std.specs.Prelude.{◌≡◌, ◌⊎◌, ℕ, List, Result, Ok, Err, IfOk, IsOk}
use Rattle.rp_geometry.specs.sets.Shape.{Part}
use Rattle.rp_semantics.specs.Walk.{Work}
use Rattle.rp_model.specs.states.State.{Lot}
use Rattle.rp_oracle.specs.declared.stopped.Stopped.{Stopped}
use Rattle.rp_region.specs.declared.fault.OpFault.TheVariants.{Limit as OpLimit}
use Rattle.rp_region.specs.Stops.{behind, TakesOver}
use Rattle.rp_answer.specs.declared.reply.RowEnd.{RowEnd}
use Rattle.rp_answer.specs.declared.reply.RowEnd.TheVariants.{Refused, Stopped as StoppedEnd}
use Rattle.rp_answer.specs.declared.answer.Refusal.{Refusal}
use Rattle.rp_answer.specs.Views.{refusal_of}
use Rattle.rp_history.specs.Lots.{lots_after}
use Rattle.rp_history.specs.Parts.{new_lots}
use Rattle.rp_lots.specs.declared.change.Replaced.{Replaced}
use Rattle.rp_lots.specs.Changes.{replaced_of}
use Rattle.rp_parcels.specs.declared.fault.ParcelFault.{ParcelFault}
use Rattle.rp_parcels.specs.Register.{IsFitChange}
use Rattle.rp_parcels.specs.Rows.{Cause, refuses, limited, wanting, cause_of}

-- the result of a row; a refusal is no stop
abbrev pub settled : {A : Type 0} → Result A RowEnd → Result (Result A Refusal) Stopped
settled (Ok x) = Ok (Ok x)
settled (Err (Refused r)) = Ok (Err r)
settled (Err (StoppedEnd e)) = Err e

-- a call has a fault of the given cause: the row ended by it, and its work is taken over; or memory ran out before, or after the row
abbrev pub IsEndedBy : {A : Type 0} → Result A RowEnd → Work → Cause → Work → Work → Type 0
IsEndedBy came walked (refuses m) old new = (r : Refusal) × (refusal_of r ≡ m) × TakesOver (settled came) walked (Ok (Err r)) old new
IsEndedBy came walked limited old new = TakesOver (settled came) walked (Err OpLimit) old new
IsEndedBy came walked wanting old new = (new ≡ old) ⊎ (IsOk came × (new ≡ behind old.proofs walked))

-- the call returns the result of the row, and its work is taken over; or there is a fault
abbrev pub IsTaken : {A : Type 0} → Result A RowEnd → Work → Result A ParcelFault → Work → Work → Type 0
IsTaken came walked (Ok x) old new = TakesOver (settled came) walked (Ok (Ok x)) old new
IsTaken came walked (Err e) old new = IsEndedBy came walked (cause_of e) old new

-- the change of a row is one that the lots may have at line n
abbrev pub IsFitFor : ℕ → List (Lot (Unit {0})) → Result (Replaced (List Part)) RowEnd → Type 0
IsFitFor n lots came = IfOk came (λ r. IsFitChange n lots r.ends.items (new_lots r.births.items r.forms.items))

-- the change of a row is made at line n; or there is a fault, and the lots are as before
abbrev pub IsMade : Result (Replaced (List Part)) RowEnd → ℕ → Work → Result (Unit {0}) ParcelFault → Work → Work → List (Lot (Unit {0})) → List (Lot (Unit {0})) → Type 0
IsMade came n walked (Ok x) old new before after = (r : Replaced (List Part)) × TakesOver (settled came) walked (Ok (Ok r)) old new × (after ≡ lots_after n before (replaced_of (λ form. form) r))
IsMade came n walked (Err e) old new before after = IsEndedBy came walked (cause_of e) old new × (after ≡ before)
