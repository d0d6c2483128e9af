-- The result of a row that is followed on the lines of a report.
use Rattle.std.specs.Prelude.{◌≡◌, ℕ, map, Result, Ok, Err}
use Rattle.rp_geometry.specs.sets.Shape.{Part}
use Rattle.rp_semantics.specs.Walk.{Outcome, done, stopped, line_wrong}
use Rattle.rp_model.specs.states.State.{Change as ModelChange, nothing_changes}
use Rattle.rp_model.specs.commands.Reply.{Reply as ModelReply}
use Rattle.rp_reports.specs.Check.{Trail, follow_lines}
use Rattle.rp_reports.specs.Text.{verdict_text}
use Rattle.rp_lists.specs.Listed.{Listed}
use Rattle.rp_answer.specs.declared.answer.Verdict.{Verdict as CodeVerdict}
use Rattle.rp_answer.specs.declared.reply.RowEnd.{RowEnd}
use Rattle.rp_answer.specs.Replies.{EndsBy}
use Rattle.rp_lots.specs.declared.change.Change.{Change}
use Rattle.rp_lots.specs.Changes.{change_of}
use Rattle.rp_register_state.specs.declared.reply.Reply.TheVariants.{Told}
use Rattle.rp_register_state.specs.Rows.{reply_of, change_in}
use Rattle.rp_check_state.specs.declared.followed.Followed.{Followed}
use Rattle.rp_check_state.specs.declared.followed.Followed.TheVariants.{Replied, Unshown}

-- ---- changes of the code as those of the model

-- the change of the model for a change of the code
abbrev pub shown_change : Change (Listed Part) → ModelChange (Unit {0})
shown_change c = change_of (λ f. f.items) c

-- the change of a row that was followed
abbrev pub change_followed : Followed → ModelChange (Unit {0})
change_followed (Replied r) = change_in (λ f. f.items) r
change_followed (Unshown n) = nothing_changes

-- ---- the result of the row of a command

-- the row has a reply, and the first of its verdict lines that the trail does not have is due at the line with this number
pub record IsUnshown (n : ℕ) (t : Trail) (o : Outcome Trail ModelReply) : Type 0 where
  pub reply : ModelReply
  pub comes : o ≡ done reply t
  pub at : Trail
  pub stops : follow_lines (map verdict_text reply.verdicts) t ≡ stopped line_wrong at
  pub number : n ≡ at.number

-- the row was followed: it has the reply, or the end, with the given trail
abbrev pub IsFollowed : Result Followed RowEnd → Trail → Outcome Trail ModelReply → Type 0
IsFollowed (Ok (Replied r)) t o = o ≡ done (reply_of (λ f. f.items) r) t
IsFollowed (Ok (Unshown n)) t o = IsUnshown n t o
IsFollowed (Err e) t o = EndsBy e t o

-- the result of a question, as a followed row
abbrev pub followed_told : Result (Listed CodeVerdict) RowEnd → Result Followed RowEnd
followed_told (Ok lines) = Ok (Replied (Told lines))
followed_told (Err e) = Err e
