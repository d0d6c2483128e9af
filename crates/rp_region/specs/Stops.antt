-- The stops of a row on its work, and how another work takes them over.
use Rattle.std.specs.Prelude.{◌≡◌, List, [], ◌++◌, Result, Ok, Err, IsErrAnd, IsSome}
use Rattle.rp_geometry.specs.searches.ProofLine.{ProofLine}
use Rattle.rp_semantics.specs.Walk.{Work}
use Rattle.rp_oracle.specs.declared.stopped.Stopped.{Stopped}
use Rattle.rp_oracle.specs.declared.stopped.Stopped.TheVariants.{Limit as StopLimit, Memory as StopMemory}
use Rattle.rp_oracle.specs.Refines.{stop_of as why_of}
use Rattle.rp_region.specs.declared.fault.OpFault.{OpFault}
use Rattle.rp_region.specs.declared.fault.OpFault.TheVariants.{Limit, Memory}

-- the stop of a walk for the fault of an operation
abbrev pub stop_of : OpFault → Stopped
stop_of Limit = StopLimit
stop_of (Memory e) = StopMemory e

-- the work with no proof line
abbrev pub fresh : Work → Work
fresh w = record { tests = w.tests; proofs = [] }

-- the work with the given proof lines before its own
abbrev pub behind : List ProofLine → Work → Work
behind front w = record { tests = w.tests; proofs = front ++ w.proofs }

-- the result of a row, or its stop, is taken over with its work after the lines before; if memory ran out, all is as before
abbrev pub TakesOver : {A : Type 0} → Result A Stopped → Work → Result A OpFault → Work → Work → Type 0
TakesOver came walked (Ok x) old new = (came ≡ Ok x) × (new ≡ behind old.proofs walked)
TakesOver came walked (Err Limit) old new = IsErrAnd came (λ e. IsSome (why_of e)) × (new ≡ behind old.proofs walked)
TakesOver came walked (Err (Memory e)) old new = new ≡ old
