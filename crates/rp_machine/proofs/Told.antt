-- What was walked of a command, as the answer and the state that are computed.
use Rattle.std.proofs.Common.{◌≡◌, ℕ, List, Option, Some, None, Result, Ok, Err, refl, sym, ap, ◌∙◌}
use Rattle.std.specs.Prelude.{IfSome, IsNone, OnOk}
use Rattle.rp_geometry.specs.sets.Shape.{Part}
use Rattle.rp_language.specs.Expression.{Command}
use Rattle.rp_language.specs.Grammar.{Version, Reading, command, reading}
use Rattle.rp_semantics.specs.Walk.{Stop, Outcome, stopped, Work, no_work, first_tester}
use Rattle.rp_model.specs.states.State.{PlainState, changed}
use Rattle.rp_model.specs.commands.Reply.{Reply}
use Rattle.rp_model.specs.commands.Row.{row}
use Rattle.rp_model.specs.commands.Rule.{walked, proofs_walked}
use Rattle.rp_reports.specs.Text.{Answer}
use Rattle.rp_reports.specs.Machine.{verdicts_walked, change_walked, answer_read, state_read, step_answer, step_state, Running, after_line}
use Rattle.rp_oracle.specs.declared.stopped.Stopped.{Stopped}
use Rattle.rp_oracle.specs.Refines.{stop_of, StopsBy}
use Rattle.rp_answer.specs.declared.reply.RowEnd.{RowEnd}
use Rattle.rp_answer.specs.declared.reply.RowEnd.TheVariants.{Refused, Stopped as StoppedEnd}
use Rattle.rp_register_state.specs.declared.reply.Reply.{Reply as CodeReply}
use Rattle.rp_register_state.specs.declared.reply.Reply.TheVariants.{Told, Changed}
use Rattle.rp_register_state.specs.Rows.{Replies}
use Rattle.rp_machine.specs.Replies.{made_by_row, IsWant, verdicts_of_row, proofs_of_row}

-- ---- a line as it is read

-- the answer to a line that is read so is the one that is computed
pub answer_as_read : (v : Version) (s : PlainState) (n : ℕ) (line : List ℕ) (r : Reading) → reading v line ≡ r → answer_read s n line r ≡ step_answer v s n line
unfolding step_answer
answer_as_read v s n line r e = ap (answer_read s n line) (sym e)

-- the machine after a line that is read so is the one that is computed
pub after_as_read : (m : Running) (n : ℕ) (line : List ℕ) (r : Reading) → reading m.version line ≡ r → record { version = m.version; state = state_read m.state n r } ≡ after_line m n line
unfolding step_state
after_as_read m n line r e = ap (λ (t : PlainState). record { version = m.version; state = t }) (ap (state_read m.state n) (sym e))

-- ---- a command

-- the answer that is told of what a row comes to
abbrev told : ℕ → List ℕ → Outcome Work Reply → Answer
told n line o = record { number = n; echo = line; proofs = proofs_walked o; verdicts = verdicts_walked o }

-- where memory did not run out, a stop is one of the walk
is_stopped : {A : Type 0} (e : Stopped) (w : Work) (o : Outcome Work A) → (IsNone (stop_of e) → ⊥) → StopsBy e w o → (why : Stop) × (o ≡ stopped why w)
is_stopped {A} e w o there h = by (stop_of e) there h
  where
    by : (s : Option Stop) → (IsNone s → ⊥) → IfSome s (λ why. o ≡ stopped why w) → (why : Stop) × (o ≡ stopped why w)
    by None there h = absurd (there refl)
    by (Some why) there h = (why, h)

-- it is that of the row that was made
told_of_row : (n : ℕ) (line : List ℕ) (r : Result (CodeReply (List Part)) RowEnd) (w : Work) (o : Outcome Work Reply) → (IsWant r → ⊥) → Replies (λ f. f) r w o
    → record { number = n; echo = line; proofs = proofs_of_row r w.proofs; verdicts = verdicts_of_row r } ≡ told n line o
told_of_row n line (Ok (Told lines)) w o there h = ap (told n line) (sym h)
told_of_row n line (Ok (Changed c)) w o there h = ap (told n line) (sym h)
told_of_row n line (Err (Refused r)) w o there h = ap (told n line) (sym h)
told_of_row n line (Err (StoppedEnd e)) w o there h = ap (told n line) (sym (is_stopped e w o there h).1)

-- the answer of a row that was made is the one that is computed
pub row_answered : (s : PlainState) (n : ℕ) (line : List ℕ) (c : Command) (r : Result (CodeReply (List Part)) RowEnd) (w : Work) → (IsWant r → ⊥) → Replies (λ f. f) r w (row first_tester s c no_work)
    → record { number = n; echo = line; proofs = proofs_of_row r w.proofs; verdicts = verdicts_of_row r } ≡ answer_read s n line (command c)
unfolding walked
row_answered s n line c r w there h = told_of_row n line r w (row first_tester s c no_work) there h

-- the state after what a row comes to
state_of_row : (n : ℕ) (s : PlainState) (r : Result (CodeReply (List Part)) RowEnd) (w : Work) (o : Outcome Work Reply) → (IsWant r → ⊥) → Replies (λ f. f) r w o → changed n s (made_by_row r) ≡ changed n s (change_walked o)
state_of_row n s (Ok (Told lines)) w o there h = ap (λ (o : Outcome Work Reply). changed n s (change_walked o)) (sym h)
state_of_row n s (Ok (Changed c)) w o there h = ap (λ (o : Outcome Work Reply). changed n s (change_walked o)) (sym h)
state_of_row n s (Err (Refused r)) w o there h = ap (λ (o : Outcome Work Reply). changed n s (change_walked o)) (sym h)
state_of_row n s (Err (StoppedEnd e)) w o there h = ap (λ (o : Outcome Work Reply). changed n s (change_walked o)) (sym (is_stopped e w o there h).1)

-- the state with the change of a row that was made is the one that is computed
pub row_changed : (s : PlainState) (n : ℕ) (c : Command) (r : Result (CodeReply (List Part)) RowEnd) (w : Work) → (IsWant r → ⊥) → Replies (λ f. f) r w (row first_tester s c no_work) → changed n s (made_by_row r) ≡ state_read s n (command c)
unfolding walked
row_changed s n c r w there h = state_of_row n s r w (row first_tester s c no_work) there h

-- ---- what is true of an answer that is there

-- the machine after a line that is read so is the one that is computed
pub after_where_ok : {A E : Type 0} (r : Result A E) (m after : Running) (n : ℕ) (line : List ℕ) (read : Reading) → reading m.version line ≡ read → OnOk r (after ≡ record { version = m.version; state = state_read m.state n read }) → OnOk r (after ≡ after_line m n line)
after_where_ok (Ok a) m after n line read e h = h ∙ after_as_read m n line read e
after_where_ok (Err e) m after n line read i h = tt
