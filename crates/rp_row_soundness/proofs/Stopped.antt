-- What is known where a walk is stopped.
use Rattle.std.proofs.Common.{◌≡◌, refl}
use Rattle.std.specs.Prelude.{Option, Some, None}
use Rattle.rp_semantics.specs.Walk.{Outcome, done, stopped, Walk, pass, after_first}
use Rattle.rp_model.specs.commands.Verdict.{Refusal}
use Rattle.rp_model.specs.commands.Checks.{and_then}
use Rattle.rp_model.specs.commands.Reply.{Reply, check}
use Rattle.rp_semantics.specs.FormLaws.{IfDone}
use Rattle.rp_row_soundness.specs.Limits.{IfDoneWith}

-- the fact holds where a walk is stopped
abbrev pub IfStopped : {W A : Type 0} → Outcome W A → Type 0 → Type 0
IfStopped (done x w) C = Unit {0}
IfStopped (stopped e w) C = C

-- what is known anyway
pub stopped_told : {W A : Type 0} (o : Outcome W A) (C : Type 0) → C → IfStopped o C
stopped_told (done x w) C c = tt
stopped_told (stopped e w) C c = c

-- what follows from what is known
pub stopped_weaker : {W A : Type 0} (C D : Type 0) (o : Outcome W A) → IfStopped o C → (C → D) → IfStopped o D
stopped_weaker C D (done x w) h to = tt
stopped_weaker C D (stopped e w) h to = to h

-- two facts
pub stopped_both : {W A : Type 0} (C D : Type 0) (o : Outcome W A) → IfStopped o C → IfStopped o D → IfStopped o (C × D)
stopped_both C D (done x w) h k = tt
stopped_both C D (stopped e w) h k = (h, k)

-- one walk of whose result a fact is known, and then the next
pub stopped_then : {W A B : Type 0} (Q : A → Type 0) (C : A → W → Type 0) (o : Outcome W A) (next : A → Walk W B) → IfDone o Q → ((x : A) (w : W) → Q x → IfStopped (next x w) (C x w)) → IfStopped (after_first next o) (IfDoneWith o C)
stopped_then Q C (done x w) next h each = each x w h
stopped_then Q C (stopped e w) next h each = tt

-- one walk and then the next
pub stopped_after : {W A B : Type 0} (C : A → W → Type 0) (o : Outcome W A) (next : A → Walk W B) → ((x : A) (w : W) → IfStopped (next x w) (C x w)) → IfStopped (after_first next o) (IfDoneWith o C)
stopped_after C (done x w) next each = each x w
stopped_after C (stopped e w) next each = tt

-- a check that passed, and the rest of a row
pub stopped_check : {W : Type 0} (C : Type 0) (o : Option Refusal) (rest : Walk W Reply) (w : W) → (o ≡ None → IfStopped (rest w) C) → IfStopped (check o rest w) C
stopped_check C None rest w goes_on = goes_on refl
stopped_check C (Some r) rest w goes_on = tt

-- two checks that passed
pub stopped_checks : {W : Type 0} (C : Type 0) (o further : Option Refusal) (rest : Walk W Reply) (w : W) → (o ≡ None → further ≡ None → IfStopped (rest w) C) → IfStopped (check (and_then o further) rest w) C
stopped_checks C None further rest w goes_on = stopped_check C further rest w (goes_on refl)
stopped_checks C (Some r) further rest w goes_on = tt

-- a check that passed is what is asked
pub stopped_passed : {W : Type 0} (o : Option Refusal) (rest : Walk W Reply) (w : W) → IfStopped (check o rest w) (o ≡ None)
stopped_passed o rest w = stopped_check (o ≡ None) o rest w (λ e. stopped_told (rest w) (o ≡ None) e)

-- a check whose row goes on without a walk
pub never_stopped : {W : Type 0} (o : Option Refusal) (r : Reply) (w : W) → IfStopped (check o (pass r) w) ⊥
never_stopped None r w = tt
never_stopped (Some x) r w = tt
