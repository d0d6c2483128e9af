-- What a row that was followed changes is taken.
use Rattle.std.proofs.Common.{ℕ}
use Rattle.std.specs.Prelude.{IfOk, Result, Ok, Err}
use Rattle.std.specs.List.{AllByRecursion}
use Rattle.rp_geometry.specs.parts.Parts.{IsCheckedPart}
use Rattle.rp_language.specs.Expression.{Command, IsKeptExpression, expressions_of}
use Rattle.rp_model.specs.states.State.{PlainState, state_of_parts}
use Rattle.rp_model.specs.states.Sound.{IsLaterThan}
use Rattle.rp_model.specs.commands.Row.{row}
use Rattle.rp_reports.specs.Check.{Trail, line_tester}
use Rattle.rp_answer.specs.declared.reply.RowEnd.{RowEnd}
use Rattle.rp_correctness.proofs.Rows.{line_rows}
use Rattle.rp_register_state.specs.Kept.{IsSoundByParts}
use Rattle.rp_register_state.specs.Taken.{IsTaken}
use Rattle.rp_register_state.proofs.States.{reply_is_taken}
use Rattle.rp_check_state.specs.declared.followed.Followed.{Followed}
use Rattle.rp_check_state.specs.declared.followed.Followed.TheVariants.{Replied, Unshown}
use Rattle.rp_check_state.specs.Followed.{change_followed, IsFollowed}

-- the row was followed from a sound state
pub followed_is_taken : (p : PlainState) → IsSoundByParts p → (n : ℕ) → IsLaterThan n (state_of_parts p) → (c : Command) → AllByRecursion IsKeptExpression (expressions_of c) → (t u : Trail) (r : Result Followed RowEnd) → IsFollowed r u (row line_tester p c t) → IfOk r (λ x. IsTaken IsCheckedPart n p (change_followed x))
followed_is_taken p sound n late c kept t u (Ok (Replied r)) h = reply_is_taken IsCheckedPart line_tester line_rows p sound n late c kept t (λ f. f.items) u (Ok r) h
followed_is_taken p sound n late c kept t u (Ok (Unshown k)) h = record { sound = sound; known = tt }
followed_is_taken p sound n late c kept t u (Err e) h = tt
