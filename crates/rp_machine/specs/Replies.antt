-- The result of a command, by the result of its row.
use Rattle.std.specs.Prelude.{List, [], ◌∷◌, map, Result, Ok, Err, IsNone}
use Rattle.rp_geometry.specs.searches.ProofLine.{ProofLine}
use Rattle.rp_geometry.specs.sets.Shape.{Part}
use Rattle.rp_model.specs.states.State.{Change as ModelChange, nothing_changes}
use Rattle.rp_model.specs.commands.Verdict.{Verdict, says_ok, refused, limit}
use Rattle.rp_answer.specs.Views.{refusal_of, verdict_of}
use Rattle.rp_oracle.specs.Refines.{stop_of}
use Rattle.rp_lots.specs.declared.change.Change.{Change}
use Rattle.rp_lots.specs.Changes.{change_of}
use Rattle.rp_answer.specs.declared.reply.RowEnd.{RowEnd}
use Rattle.rp_answer.specs.declared.reply.RowEnd.TheVariants.{Refused, Stopped as StoppedEnd}
use Rattle.rp_register_state.specs.declared.reply.Reply.{Reply as CodeReply}
use Rattle.rp_register_state.specs.declared.reply.Reply.TheVariants.{Told, Changed}
use Rattle.rp_register_state.specs.Rows.{change_in}

-- ---- changes

-- the change of the model for a change of the code
abbrev pub made : Change (List Part) → ModelChange (Unit {0})
made c = change_of (λ form. form) c

-- the change of a reply
abbrev pub made_by : CodeReply (List Part) → ModelChange (Unit {0})
made_by r = change_in (λ form. form) r

-- the change of a row; none if it has no reply
abbrev pub made_by_row : Result (CodeReply (List Part)) RowEnd → ModelChange (Unit {0})
made_by_row (Ok r) = made_by r
made_by_row (Err e) = nothing_changes

-- ---- answers

-- the verdict lines of a reply
abbrev pub lines_of : CodeReply (List Part) → List Verdict
lines_of (Told lines) = map verdict_of lines.items
lines_of (Changed c) = says_ok ∷ []

-- the verdict lines of a row; a stop that is not for want of memory is a limit
abbrev pub verdicts_of_row : Result (CodeReply (List Part)) RowEnd → List Verdict
verdicts_of_row (Ok r) = lines_of r
verdicts_of_row (Err (Refused r)) = refused (refusal_of r) ∷ []
verdicts_of_row (Err (StoppedEnd e)) = refused limit ∷ []

-- the proof lines of a row; a stop leaves none
abbrev pub proofs_of_row : Result (CodeReply (List Part)) RowEnd → List ProofLine → List ProofLine
proofs_of_row (Err (StoppedEnd e)) lines = []
proofs_of_row _ lines = lines

-- memory ran out in a row
abbrev pub IsWant : Result (CodeReply (List Part)) RowEnd → Type 0
IsWant (Err (StoppedEnd e)) = IsNone (stop_of e)
IsWant _ = ⊥
