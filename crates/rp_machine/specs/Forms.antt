-- The contracts of calls that make the form of an expression.
use Rattle.std.specs.Prelude.{◌≡◌, Result, Ok, Err}
use Rattle.rp_semantics.specs.Walk.{done, stopped, limit_met, Walk, Work}
use Rattle.rp_region.specs.declared.fault.OpFault.{OpFault}
use Rattle.rp_region.specs.declared.fault.OpFault.TheVariants.{Limit as OpLimit, Memory as OpMemory}
use Rattle.rp_region.specs.Makes.{IsCutShort}
use Rattle.rp_machine.specs.declared.fault.FormFault.{FormFault}
use Rattle.rp_machine.specs.declared.fault.FormFault.TheVariants.{Unknown, Limit, Memory}

-- a fault of an operation, as a fault of a form
abbrev pub fault_of_form : OpFault → FormFault
fault_of_form OpLimit = Limit
fault_of_form (OpMemory e) = Memory e

-- the walk has the result, as the model sees it, from the work old to the work new; or it meets a limit, or was cut short for want of memory; no name is unknown
abbrev pub MakesForm : {A B : Type 0} → (A → B) → Result A FormFault → Work → Work → Walk Work B → Type 0
MakesForm view (Ok x) old new walk = walk old ≡ done (view x) new
MakesForm view (Err (Unknown x)) old new walk = ⊥
MakesForm view (Err Limit) old new walk = walk old ≡ stopped limit_met new
MakesForm view (Err (Memory e)) old new walk = IsCutShort old new (walk old)
