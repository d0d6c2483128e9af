-- What the rows of commands come to, as replies.
use Rattle.std.proofs.Common.{◌≡◌, List, Result, Ok, Err, sym, subst}
use Rattle.rp_geometry.specs.sets.Shape.{Part}
use Rattle.rp_semantics.specs.Walk.{Outcome, Tester}
use Rattle.rp_model.specs.states.State.{PlainState}
use Rattle.rp_model.specs.commands.Reply.{Reply as ModelReply}
use Rattle.rp_answer.specs.declared.answer.Verdict.{Verdict as CodeVerdict}
use Rattle.rp_lists.specs.Listed.{Listed}
use Rattle.rp_answer.specs.declared.reply.RowEnd.{RowEnd}
use Rattle.rp_answer.specs.Replies.{Tells, GoesOn}
use Rattle.rp_lots.specs.declared.change.Change.{Change}
use Rattle.rp_lots.specs.Changes.{Changes, change_of}
use Rattle.rp_register_state.specs.declared.reply.Reply.{Reply}
use Rattle.rp_register_state.specs.declared.reply.Row.{Row as CodeRow}
use Rattle.rp_register_state.specs.Rows.{Replies, reply_told, rest_of, row_told, row_changed, IsReadyRow}
use Rattle.std.specs.Prelude.{IfOk}

module _ {W F : Type 0} (tester : Tester W) (view : F → List Part) (s : PlainState) where
  -- the row of a question
  pub told_goes_on : (q : Result (Listed CodeVerdict) RowEnd) (w : W) (o : Outcome W ModelReply) → Tells q w o → GoesOn (λ x. x) (row_told {F = F} q) w (rest_of tester view s) o
  told_goes_on (Ok lines) w o h = h
  told_goes_on (Err e) w o h = h

  -- the row of a command that changes something
  pub changed_goes_on : (q : Result (Change F) RowEnd) (w : W) (o : Outcome W ModelReply) → Changes (change_of view) q w o → GoesOn (λ x. x) (row_changed q) w (rest_of tester view s) o
  changed_goes_on (Ok d) w o h = h
  changed_goes_on (Err e) w o h = h

-- rows that are at their end are ready
pub told_ready : {F : Type 0} (view : F → List Part) (r : Result (CodeRow F) RowEnd) (q : Result (Listed CodeVerdict) RowEnd) → r ≡ row_told q → IfOk r (IsReadyRow view)
told_ready {F} view r q is = subst (λ (x : Result (CodeRow F) RowEnd). IfOk x (IsReadyRow view)) (sym is) (by q)
  where
    by : (q : Result (Listed CodeVerdict) RowEnd) → IfOk (row_told {F = F} q) (IsReadyRow view)
    by (Ok lines) = tt
    by (Err e) = tt

-- so are those that change something
pub changed_ready : {F : Type 0} (view : F → List Part) (r : Result (CodeRow F) RowEnd) (q : Result (Change F) RowEnd) → r ≡ row_changed q → IfOk r (IsReadyRow view)
changed_ready {F} view r q is = subst (λ (x : Result (CodeRow F) RowEnd). IfOk x (IsReadyRow view)) (sym is) (by q)
  where
    by : (q : Result (Change F) RowEnd) → IfOk (row_changed q) (IsReadyRow view)
    by (Ok d) = tt
    by (Err e) = tt

-- a question that is left was answered
pub question_replied : {W F : Type 0} (view : F → List Part) (r : Result (Reply F) RowEnd) (q : Result (Listed CodeVerdict) RowEnd) (w : W) (o left : Outcome W ModelReply) → o ≡ left → r ≡ reply_told q → Tells q w left → Replies view r w o
question_replied {W} {F} view r q w o left same is h = subst (λ (x : Result (Reply F) RowEnd). Replies view x w o) (sym is) (subst (λ (p : Outcome W ModelReply). Replies view (reply_told {F = F} q) w p) (sym same) (by q h))
  where
    by : (q : Result (Listed CodeVerdict) RowEnd) → Tells q w left → Replies view (reply_told {F = F} q) w left
    by (Ok lines) h = h
    by (Err e) h = h
