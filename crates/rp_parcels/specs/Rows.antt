-- The results of calls of the register, by the rows of their commands.
use Rattle.std.specs.Prelude.{◌≡◌, ℕ, List, Option, Some, None, IfSome, Result, Ok, Err}
use Rattle.rp_geometry.specs.searches.ProofLine.{ProofLine, in_line}
use Rattle.rp_semantics.specs.Walk.{Outcome, done, stopped, limit_met, Walk, Work}
use Rattle.rp_language.specs.Name.{Label}
use Rattle.rp_model.specs.states.State.{Lot, NewLot, lots_replaced}
use Rattle.rp_model.specs.commands.Verdict.{Refusal, known, unknown, repeated, layers, same_name, too_few, empty, overlaps, empty_side, empty_child, outside_lot, children_overlap, gap}
use Rattle.rp_model.specs.commands.Reply.{Reply, refusal, accepted}
use Rattle.rp_region.specs.Makes.{IsCutShort}
use Rattle.rp_region.specs.Pairs.{IsLast}
use Rattle.rp_history.specs.Lots.{lots_after}
use Rattle.rp_parcels.specs.declared.fault.ParcelFault.{ParcelFault}
use Rattle.rp_parcels.specs.declared.fault.ParcelFault.TheVariants.{Known, Unknown, Repeated, Layers, Same, Few, Empty, Limit, Overlaps, EmptySide, EmptyChild, Outside, ChildrenOverlap, Gap, Memory}

-- the cause of a fault: a refusal, a limit that is met, or want of memory
pub data Cause : Type 0 where
  refuses : Refusal → Cause
  limited wanting : Cause

-- the cause of a fault
abbrev pub cause_of : ParcelFault → Cause
cause_of (Known x) = refuses (known x)
cause_of (Unknown x) = refuses (unknown x)
cause_of (Repeated x) = refuses (repeated x)
cause_of (Layers x) = refuses (layers x)
cause_of Same = refuses same_name
cause_of Few = refuses too_few
cause_of Empty = refuses empty
cause_of Limit = limited
cause_of (Overlaps x points) = refuses (overlaps x)
cause_of (EmptySide k) = refuses (empty_side k)
cause_of (EmptyChild k) = refuses (empty_child k)
cause_of (Outside k points) = refuses (outside_lot k)
cause_of (ChildrenOverlap m n points) = refuses (children_overlap m n)
cause_of (Gap points) = refuses gap
cause_of (Memory e) = wanting

-- the proof line in a fault, if there is one
abbrev pub line_of_fault : ParcelFault → Option ProofLine
line_of_fault (Overlaps x points) = Some (in_line points)
line_of_fault (Outside k points) = Some (in_line points)
line_of_fault (ChildrenOverlap m n points) = Some (in_line points)
line_of_fault (Gap points) = Some (in_line points)
line_of_fault _ = None

-- the proof line in a fault is the last of the proof lines
abbrev pub IsTold : List ProofLine → ParcelFault → Type 0
IsTold lines e = IfSome (line_of_fault e) (λ line. IsLast line lines)

-- the outcome of a row whose call has a fault of the given cause, from the work old to the work new; if memory ran out, the row was cut short
abbrev pub EndsBy : Cause → Work → Work → Outcome Work Reply → Type 0
EndsBy (refuses r) old new o = o ≡ done (refusal r) new
EndsBy limited old new o = o ≡ stopped limit_met new
EndsBy wanting old new o = IsCutShort old new o

-- the outcome of a row whose call has the given fault, from the work old to the work new
abbrev pub EndsWith : ParcelFault → Work → Work → Outcome Work Reply → Type 0
EndsWith e old new o = EndsBy (cause_of e) old new o

-- the answer to a question, from the work old to the work new: its row has the reply of the result, as the model sees it, or the fault
abbrev pub Answers : {A : Type 0} → (A → Reply) → Result A ParcelFault → Work → Work → Walk Work Reply → Type 0
Answers view (Ok x) old new row = row old ≡ done (view x) new
Answers view (Err e) old new row = EndsWith e old new (row old)

-- the row accepts a change at line n: lots end, and others are born in their place
pub record IsAccepted (n : ℕ) (before after : List (Lot (Unit {0}))) (w : Work) (o : Outcome Work Reply) : Type 0 where
  pub ids : List Label
  pub new : List (NewLot (Unit {0}))
  pub says : o ≡ done (accepted (lots_replaced ids new)) w
  pub lots : after ≡ lots_after n before (lots_replaced ids new)

-- a change at line n, from the work old to the work new: the row accepts it, and the lots are those after it; or there is a fault, and the lots are as before
abbrev pub Changes : {A : Type 0} → Result A ParcelFault → ℕ → Work → Work → List (Lot (Unit {0})) → List (Lot (Unit {0})) → Walk Work Reply → Type 0
Changes (Ok x) n old new before after row = IsAccepted n before after new (row old)
Changes (Err e) n old new before after row = EndsWith e old new (row old) × (after ≡ before)
