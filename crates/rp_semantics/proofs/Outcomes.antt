-- What a walk comes to where it is not stopped: one walk after another, and what follows from what is known of a result.
use Rattle.rp_semantics.specs.Walk.{Outcome, done, stopped, Walk, after_first}
use Rattle.rp_semantics.specs.FormLaws.{IfDone}

-- a walk, and then a next one that uses what the first one comes to
pub then_done : {W A B : Type 0} (Q : A → Type 0) (P : B → Type 0) (o : Outcome W A) (next : A → Walk W B) → IfDone o Q → ((x : A) (w : W) → Q x → IfDone (next x w) P) → IfDone (after_first next o) P
then_done Q P (done x w) next h each = each x w h
then_done Q P (stopped e w) next h each = tt

-- the same of a first walk of whose result nothing is known
pub after_done : {W A B : Type 0} (P : B → Type 0) (o : Outcome W A) (next : A → Walk W B) → ((x : A) (w : W) → IfDone (next x w) P) → IfDone (after_first next o) P
after_done P (done x w) next each = each x w
after_done P (stopped e w) next each = tt

-- a result with a fact has what follows from it
pub weaker_done : {W A : Type 0} (Q P : A → Type 0) (o : Outcome W A) → IfDone o Q → ((x : A) → Q x → P x) → IfDone o P
weaker_done Q P (done x w) h each = each x h
weaker_done Q P (stopped e w) h each = tt
