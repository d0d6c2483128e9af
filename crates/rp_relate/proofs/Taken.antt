-- Rows of comparisons, as a work takes over what they have come to.
use Rattle.std.proofs.Common.{◌≡◌, Result, subst}
use Rattle.rp_semantics.specs.Walk.{Walk, Work}
use Rattle.rp_oracle.specs.declared.stopped.Stopped.{Stopped}
use Rattle.rp_oracle.specs.Refines.{Refines}
use Rattle.rp_region.specs.declared.fault.OpFault.{OpFault}
use Rattle.rp_region.specs.Makes.{Makes}
use Rattle.rp_region.specs.Stops.{fresh, TakesOver}
use Rattle.rp_region.proofs.Behind.{ComesBehind, makes_behind}
use Rattle.rp_parametricity.proofs.Likeness.{Anything}
use Rattle.rp_eval.proofs.Appended.{Appended, ends_behind, stops_behind}

-- a walk that comes to the same behind any lines
behind_lines : {A : Type 0} (walk : Walk Work A) → Appended Anything walk walk → ComesBehind walk
behind_lines walk h = record { ends = ends_behind Anything walk h; stops = stops_behind Anything walk h }

-- what its row has come to on a fresh work, taken over, is what it makes of the work
pub taken_over : {A B : Type 0} (view : A → B) (walk : Walk Work B) (came : Result A Stopped) (r : Result A OpFault) (old begun walked new : Work)
    → Appended Anything walk walk → begun ≡ fresh old → Refines view came walked (walk begun) → TakesOver came walked r old new → Makes view r old new walk
taken_over view walk came r old begun walked new law e h t = makes_behind view came r walk old walked new (behind_lines walk law) (subst (λ w. Refines view came walked (walk w)) e h) t
