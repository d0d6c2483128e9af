-- The outputs of tasks, where the status says that all was written, and the fronts of them where it says that not all was.
use Rattle.std.proofs.Common.{◌≡◌, ◌⊎◌, ℕ, ◌≤◌, Bool, true, false, IsTrue, List, [], Option, Some, None, IfSome, Result, Ok, Err, IfOk, OnErr, OnOk, refl, sym, ◌∙◌, subst, inl, inr, arith}
use Rattle.rp_io.specs.Bytes.{Appends, AppendsPrefix}
use Rattle.rp_reports.specs.Output.{Task, make_script, try_script, task_of}
use Rattle.rp_reports.specs.Made.{made_script, trial_lines}
use Rattle.rp_reports.specs.Text.{text_of_lines}
use Rattle.rp_scripts.specs.Output.{PutsFront, PutsOutput}
use Rattle.rp_scripts.specs.declared.task.MadeTask.{MadeTask}
use Rattle.rp_scripts.specs.declared.task.MadeTask.TheVariants.{Write, Try}
use Rattle.rp_scripts.specs.declared.fault.OutputFault.{OutputFault}
use Rattle.rp_scripts.specs.declared.fault.OutputFault.TheVariants.{Put, Memory}
use Rattle.rp_tool.specs.declared.status.TheConstants.{REFUSED, PUT_FAILED, OUT_OF_MEMORY}
use Rattle.rp_io.specs.Intake.{IsWhole}
use Rattle.rp_scripts.specs.Task.{meaning_of_made}
use Rattle.rp_tool.specs.Status.{IsFrontOf, IsOutputOf, status_of_made, status_of_output}

-- nothing is refused in a made script that is written
pub PutsOutput-make : (n seed : ℕ) (input : List ℕ) (old now : Option (List ℕ)) → Appends old now (text_of_lines (made_script n seed)) → PutsOutput (make_script n seed) input old now false
PutsOutput-make n seed input old now h = record { lines = made_script n seed; output = refl; text = h; mark = ((λ (h : IsTrue false). absurd (cc)), λ r. absurd r) }

-- nor in its summary
pub PutsOutput-trial : (n seed : ℕ) (input : List ℕ) (old now : Option (List ℕ)) → Appends old now (text_of_lines (trial_lines n seed)) → PutsOutput (try_script n seed) input old now false
PutsOutput-trial n seed input old now h = record { lines = trial_lines n seed; output = refl; text = h; mark = ((λ (h : IsTrue false). absurd (cc)), λ r. absurd r) }

-- the output of a call that wrote the script
pub OnOk-make : {X E : Type 0} (r : Result X E) (t : MadeTask) (n seed : ℕ) (old now : Option (List ℕ)) → t ≡ Write → OnOk r (Appends old now (text_of_lines (made_script n seed)))
    → OnOk r ((input : List ℕ) → PutsOutput (meaning_of_made t n seed) input old now false)
OnOk-make (Ok x) t n seed old now e h = λ input. subst (λ (u : MadeTask). PutsOutput (meaning_of_made u n seed) input old now false) (sym e) (PutsOutput-make n seed input old now h)
OnOk-make (Err x) t n seed old now e h = tt

-- the output of a call that wrote its summary
pub OnOk-trial : {X E : Type 0} (r : Result X E) (t : MadeTask) (n seed : ℕ) (old now : Option (List ℕ)) → t ≡ Try → OnOk r (Appends old now (text_of_lines (trial_lines n seed)))
    → OnOk r ((input : List ℕ) → PutsOutput (meaning_of_made t n seed) input old now false)
OnOk-trial (Ok x) t n seed old now e h = λ input. subst (λ (u : MadeTask). PutsOutput (meaning_of_made u n seed) input old now false) (sym e) (PutsOutput-trial n seed input old now h)
OnOk-trial (Err x) t n seed old now e h = tt

-- where the status says that all was written, the output of the words is there
pub IsOutputOf-made : (outcome : Result (Unit {0}) OutputFault) (words : List (List ℕ)) (task : Task) (status : ℕ) (input : List ℕ) (old now : Option (List ℕ)) → status ≡ status_of_made outcome → status ≤ REFUSED
    → task_of words ≡ Some task → OnOk outcome ((any : List ℕ) → PutsOutput task any old now false) → IsOutputOf words input old now status
IsOutputOf-made (Ok done) words task status input old now e low listed puts =
    let h = puts input in
    record { task = task; lines = h.lines; listed = listed; output = h.output; written = h.text; refused = ((λ one. absurd (omega (arith, e, one))), λ r. let no : IsTrue false = h.mark.1 r in absurd (cc)) }
IsOutputOf-made (Err Put) words task status input old now e low listed puts = absurd (omega (arith, e, low))
IsOutputOf-made (Err (Memory x)) words task status input old now e low listed puts = absurd (omega (arith, e, low))

-- the output of a task on bytes that were read, where the status says that all was written
pub IsOutputOf-read : (outcome : Result Bool OutputFault) (words : List (List ℕ)) (task : Task) (status : ℕ) (bytes : List ℕ) (old now : Option (List ℕ)) → status ≡ status_of_output outcome → status ≤ REFUSED
    → task_of words ≡ Some task → IfOk outcome (λ refused. PutsOutput task bytes old now refused) → IsOutputOf words bytes old now status
IsOutputOf-read (Ok true) words task status bytes old now e low listed h =
    record { task = task; lines = h.lines; listed = listed; output = h.output; written = h.text; refused = ((λ one. h.mark.0 refl), λ r. omega (arith, e)) }
IsOutputOf-read (Ok false) words task status bytes old now e low listed h =
    record { task = task; lines = h.lines; listed = listed; output = h.output; written = h.text; refused = ((λ one. absurd (omega (arith, e, one))), λ r. let no : IsTrue false = h.mark.1 r in absurd (cc)) }
IsOutputOf-read (Err Put) words task status bytes old now e low listed h = absurd (omega (arith, e, low))
IsOutputOf-read (Err (Memory x)) words task status bytes old now e low listed h = absurd (omega (arith, e, low))

-- the bytes that were read are all that the source had
pub IsOutputOf-whole : (before after : Option (List ℕ)) (words : List (List ℕ)) (status : ℕ) (bytes whole : List ℕ) (old now : Option (List ℕ)) → IsWhole before after whole → bytes ≡ whole
    → IsOutputOf words bytes old now status → IfSome before (λ input. IsOutputOf words input old now status)
IsOutputOf-whole None after words status bytes whole old now w e h = tt
IsOutputOf-whole (Some left) after words status bytes whole old now w e h = subst (λ (input : List ℕ). IsOutputOf words input old now status) (e ∙ w.0) h

-- a front of a made script
PutsFront-make : (n seed : ℕ) (input : List ℕ) (old now : Option (List ℕ)) → AppendsPrefix old now (text_of_lines (made_script n seed)) → PutsFront (make_script n seed) input old now
PutsFront-make n seed input old now h = record { lines = made_script n seed; output = refl; text = h }

-- a front of its summary
PutsFront-trial : (n seed : ℕ) (input : List ℕ) (old now : Option (List ℕ)) → AppendsPrefix old now (text_of_lines (trial_lines n seed)) → PutsFront (try_script n seed) input old now
PutsFront-trial n seed input old now h = record { lines = trial_lines n seed; output = refl; text = h }

-- what a call put that did not write the whole script
pub OnErr-make : {X E : Type 0} (r : Result X E) (t : MadeTask) (n seed : ℕ) (old now : Option (List ℕ)) → t ≡ Write → OnErr r (AppendsPrefix old now (text_of_lines (made_script n seed)))
    → OnErr r ((input : List ℕ) → PutsFront (meaning_of_made t n seed) input old now)
OnErr-make (Ok x) t n seed old now e h = tt
OnErr-make (Err x) t n seed old now e h = λ input. subst (λ (u : MadeTask). PutsFront (meaning_of_made u n seed) input old now) (sym e) (PutsFront-make n seed input old now h)

-- what a call put that did not write its whole summary
pub OnErr-trial : {X E : Type 0} (r : Result X E) (t : MadeTask) (n seed : ℕ) (old now : Option (List ℕ)) → t ≡ Try → OnErr r (AppendsPrefix old now (text_of_lines (trial_lines n seed)))
    → OnErr r ((input : List ℕ) → PutsFront (meaning_of_made t n seed) input old now)
OnErr-trial (Ok x) t n seed old now e h = tt
OnErr-trial (Err x) t n seed old now e h = λ input. subst (λ (u : MadeTask). PutsFront (meaning_of_made u n seed) input old now) (sym e) (PutsFront-trial n seed input old now h)

-- the status says that a put failed or memory ran out
abbrev HasStopped : ℕ → Type 0
HasStopped status = (status ≡ PUT_FAILED) ⊎ (status ≡ OUT_OF_MEMORY)

-- then it is above those of a whole output
past_done : (status : ℕ) → HasStopped status → 4 ≤ status
past_done status (inl e) = omega (arith, e)
past_done status (inr e) = omega (arith, e)

-- a front of the output of the words
IsFrontOf-listed : (words : List (List ℕ)) (task : Task) (input : List ℕ) (old now : Option (List ℕ)) → task_of words ≡ Some task → PutsFront task input old now → IsFrontOf words input old now
IsFrontOf-listed words task input old now listed h = record { task = task; lines = h.lines; listed = listed; output = h.output; written = h.text }

-- where the status says that not all was written, a front of the output of the words is there
pub IsFrontOf-made : (outcome : Result (Unit {0}) OutputFault) (words : List (List ℕ)) (task : Task) (status : ℕ) (input : List ℕ) (old now : Option (List ℕ)) → status ≡ status_of_made outcome
    → (status ≡ PUT_FAILED) ⊎ (status ≡ OUT_OF_MEMORY) → task_of words ≡ Some task → OnErr outcome ((any : List ℕ) → PutsFront task any old now) → IsFrontOf words input old now
IsFrontOf-made (Ok done) words task status input old now e stop listed puts = absurd (omega (arith, e, past_done status stop))
IsFrontOf-made (Err fault) words task status input old now e stop listed puts = IsFrontOf-listed words task input old now listed (puts input)

-- nothing, or a front of the output of the words
nothing_or_front : (words : List (List ℕ)) (task : Task) (bytes : List ℕ) (old now : Option (List ℕ)) → task_of words ≡ Some task → Appends old now [] ⊎ PutsFront task bytes old now
    → Appends old now [] ⊎ IsFrontOf words bytes old now
nothing_or_front words task bytes old now listed (inl h) = inl h
nothing_or_front words task bytes old now listed (inr h) = inr (IsFrontOf-listed words task bytes old now listed h)

-- the same of a task on bytes that were read
pub IsFrontOf-read : (outcome : Result Bool OutputFault) (words : List (List ℕ)) (task : Task) (status : ℕ) (bytes : List ℕ) (old now : Option (List ℕ)) → status ≡ status_of_output outcome
    → (status ≡ PUT_FAILED) ⊎ (status ≡ OUT_OF_MEMORY) → task_of words ≡ Some task → OnErr outcome (Appends old now [] ⊎ PutsFront task bytes old now) → Appends old now [] ⊎ IsFrontOf words bytes old now
IsFrontOf-read (Ok true) words task status bytes old now e stop listed h = absurd (omega (arith, e, past_done status stop))
IsFrontOf-read (Ok false) words task status bytes old now e stop listed h = absurd (omega (arith, e, past_done status stop))
IsFrontOf-read (Err fault) words task status bytes old now e stop listed h = nothing_or_front words task bytes old now listed h

-- a front is nothing or a front
pub OnErr-front : (outcome : Result Bool OutputFault) (task : Task) (bytes : List ℕ) (old now : Option (List ℕ)) → OnErr outcome (PutsFront task bytes old now)
    → OnErr outcome (Appends old now [] ⊎ PutsFront task bytes old now)
OnErr-front (Ok refused) task bytes old now h = tt
OnErr-front (Err fault) task bytes old now h = inr h

-- the bytes that were read are all that the source had
pub IsFrontOf-whole : (before after : Option (List ℕ)) (words : List (List ℕ)) (bytes whole : List ℕ) (old now : Option (List ℕ)) → IsWhole before after whole → bytes ≡ whole
    → Appends old now [] ⊎ IsFrontOf words bytes old now → IfSome before (λ input. Appends old now [] ⊎ IsFrontOf words input old now)
IsFrontOf-whole None after words bytes whole old now w e h = tt
IsFrontOf-whole (Some left) after words bytes whole old now w e h = subst (λ (input : List ℕ). Appends old now [] ⊎ IsFrontOf words input old now) (e ∙ w.0) h
