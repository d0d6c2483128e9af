-- The contracts of calls that make a walk.
use Rattle.std.specs.Prelude.{◌≡◌, Bool, true, false, List, ◌++◌, Result, Ok, Err}
use Rattle.std.specs.declared.alloc.AllocError.{AllocError}
use Rattle.rp_geometry.specs.searches.ProofLine.{ProofLine}
use Rattle.rp_semantics.specs.Walk.{Outcome, done, stopped, limit_met, Walk, Work, with_lines}
use Rattle.rp_region.specs.declared.fault.OpFault.{OpFault}
use Rattle.rp_region.specs.declared.fault.OpFault.TheVariants.{Limit, Memory}

-- the outcome of a count of tests: done, or a stop at the limit
abbrev pub counted : Bool → Work → Outcome Work (Unit {0})
counted true w = done tt w
counted false w = stopped limit_met w

-- want of memory, as a fault of an operation
abbrev pub op_result : {A : Type 0} → Result A AllocError → Result A OpFault
op_result (Ok x) = Ok x
op_result (Err e) = Err (Memory e)

-- the walk that appends proof lines, without a test
abbrev pub telling : List ProofLine → Walk Work (Unit {0})
telling lines w = done tt (with_lines w lines)

-- the work at the end of a walk
abbrev pub work_after : {A : Type 0} → Outcome Work A → Work
work_after (done x w) = w
work_after (stopped s w) = w

-- the second work has the proof lines of the first, and further ones after them
pub record TellsMore (v w : Work) : Type 0 where
  pub more : List ProofLine
  pub lines : w.proofs ≡ v.proofs ++ more

-- the walk only appends proof lines, from any work on
pub record OnlyTells {A : Type 0} (walk : Walk Work A) : Type 0 where
  pub tells : (w : Work) → TellsMore w (work_after (walk w))

-- the walk was cut short: the proof lines are those before, and a prefix of those that the whole walk appends
pub record IsCutShort {A : Type 0} (old new : Work) (outcome : Outcome Work A) : Type 0 where
  pub told : TellsMore old new
  pub untold : TellsMore new (work_after outcome)

-- the fault is that of the walk: with Limit it meets a limit at the new work; for want of memory it was cut short
abbrev pub IsFaultOf : {A : Type 0} → OpFault → Work → Work → Walk Work A → Type 0
IsFaultOf Limit old new walk = walk old ≡ stopped limit_met new
IsFaultOf (Memory e) old new walk = IsCutShort old new (walk old)

-- the walk has the result, as the model sees it, from the work old to the work new; or it has the fault
abbrev pub Makes : {A B : Type 0} → (A → B) → Result A OpFault → Work → Work → Walk Work B → Type 0
Makes view (Ok x) old new walk = walk old ≡ done (view x) new
Makes view (Err e) old new walk = IsFaultOf e old new walk
