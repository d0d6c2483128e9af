-- Where no line is due.
use Rattle.std.proofs.Common.{Bool, true, false, ap}
use Rattle.rp_semantics.specs.Walk.{Outcome, stopped, limit_told, line_wrong}
use Rattle.rp_reports.specs.Check.{Trail, nothing_due}
use Rattle.rp_oracle.specs.declared.stopped.Stopped.{Stopped}
use Rattle.rp_oracle.specs.declared.stopped.Stopped.TheVariants.{Wrong, TakenWrong, LimitReported, Limit, Memory}
use Rattle.rp_oracle.specs.Refines.{StopsBy}
use Rattle.rp_trail.specs.Stops.{IsNotDue}

-- the walk by what the next line tells
abbrev due_by : {A : Type 0} → Trail → Bool → Outcome Trail A
due_by t b = elim b [ true ↦ stopped limit_told t | false ↦ stopped line_wrong t ]

-- the walk stops so
pub not_due : (A : Type 0) (e : Stopped) (t : Trail) → IsNotDue e t → StopsBy {A = A} e t (nothing_due t)
not_due A Wrong t h = ap (due_by t) h
not_due A TakenWrong t h = absurd h
not_due A LimitReported t h = ap (due_by t) h
not_due A Limit t h = absurd h
not_due A (Memory e) t h = absurd h
