-- The contracts of calls that make a walk, for any tester.
use Rattle.std.specs.Prelude.{◌≡◌, Bool, true, false, Option, Some, None, IfSome, Result, Ok, Err}
use Rattle.rp_semantics.specs.Walk.{Stop, limit_met, limit_told, line_wrong, taken_wrong, Outcome, done, stopped}
use Rattle.rp_oracle.specs.declared.stopped.Stopped.{Stopped}
use Rattle.rp_oracle.specs.declared.stopped.Stopped.TheVariants.{Wrong, TakenWrong, LimitReported, Limit, Memory}

-- the outcome of a count of tests: done, or a stop at the limit
abbrev pub counted : {W : Type 0} → Bool → W → Outcome W (Unit {0})
counted true w = done tt w
counted false w = stopped limit_met w

-- the stop of the model; none if memory ran out
abbrev pub stop_of : Stopped → Option Stop
stop_of Wrong = Some line_wrong
stop_of TakenWrong = Some taken_wrong
stop_of LimitReported = Some limit_told
stop_of Limit = Some limit_met
stop_of (Memory e) = None

-- the walk is stopped for this reason, with the given work; nothing is stated if memory ran out
abbrev pub StopsBy : {W A : Type 0} → Stopped → W → Outcome W A → Type 0
StopsBy e new o = IfSome (stop_of e) (λ s. o ≡ stopped s new)

-- the walk has the result, as the model sees it, or is stopped, with the given work
abbrev pub Refines : {W A B : Type 0} → (A → B) → Result A Stopped → W → Outcome W B → Type 0
Refines view (Ok x) new o = o ≡ done (view x) new
Refines view (Err e) new o = StopsBy e new o
