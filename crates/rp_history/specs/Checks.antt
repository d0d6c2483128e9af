-- The contracts of the checks on names.
use Rattle.std.specs.Prelude.{◌≡◌, List, map, Option, Some, None, IfSome, Result, Ok, Err}
use Rattle.rp_model.specs.states.State.{Lot, PlainState, bare_lot}
use Rattle.rp_model.specs.commands.Verdict.{Refusal, known, unknown, repeated, layers, same_name, too_few}
use Rattle.rp_history.specs.declared.fault.NameFault.{NameFault}
use Rattle.rp_history.specs.declared.fault.NameFault.TheVariants.{Known, Unknown, Repeated, Layers, Same, Few, Memory}

-- the property holds in each state whose lots have this history
abbrev pub InEach : List (Lot (Unit {0})) → (PlainState → Type 0) → Type 0
InEach history P = (s : PlainState) → history ≡ map bare_lot s.lots → P s

-- the refusal of a fault; none if memory ran out
abbrev pub refusal_of_names : NameFault → Option Refusal
refusal_of_names (Known x) = Some (known x)
refusal_of_names (Unknown x) = Some (unknown x)
refusal_of_names (Repeated x) = Some (repeated x)
refusal_of_names (Layers x) = Some (layers x)
refusal_of_names Same = Some same_name
refusal_of_names Few = Some too_few
refusal_of_names (Memory e) = None

-- the check has the refusal of the fault; nothing is stated if memory ran out
abbrev pub FailsNames : NameFault → Option Refusal → Type 0
FailsNames e o = IfSome (refusal_of_names e) (λ r. o ≡ Some r)

-- a call made the check: it refuses nothing, or its refusal is that of the fault
abbrev pub ChecksNames : {A : Type 0} → Result A NameFault → Option Refusal → Type 0
ChecksNames (Ok x) o = o ≡ None
ChecksNames (Err e) o = FailsNames e o
