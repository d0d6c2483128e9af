-- The result of the row of a command.
use Rattle.std.specs.Prelude.{◌≡◌, ◌≤◌, List, length, map, Result, Ok, Err}
use Rattle.rp_geometry.specs.parts.Parts.{most_parts}
use Rattle.rp_geometry.specs.sections.Trace.{IsHeight}
use Rattle.rp_geometry.specs.sets.Shape.{Part}
use Rattle.rp_semantics.specs.Walk.{Outcome, done, Tester, Walk, pass}
use Rattle.rp_model.specs.states.State.{Change as ModelChange, nothing_changes, PlainState}
use Rattle.rp_model.specs.commands.Reply.{Reply as ModelReply, reply_lines, accepted}
use Rattle.rp_model.specs.commands.Access.{row_access}
use Rattle.rp_model.specs.commands.Audit.{row_audit}
use Rattle.rp_model.specs.commands.Neighbours.{row_neighbours}
use Rattle.rp_model.specs.commands.Section.{row_section}
use Rattle.rp_lists.specs.Listed.{Listed}
use Rattle.rp_answer.specs.declared.answer.Verdict.{Verdict as CodeVerdict}
use Rattle.rp_answer.specs.Views.{verdict_of}
use Rattle.rp_answer.specs.declared.reply.RowEnd.{RowEnd}
use Rattle.rp_answer.specs.Replies.{EndsBy}
use Rattle.rp_lots.specs.declared.change.Change.{Change}
use Rattle.rp_lots.specs.Changes.{change_of}
use Rattle.rp_register_state.specs.declared.reply.Reply.{Reply}
use Rattle.rp_register_state.specs.declared.reply.Reply.TheVariants.{Told, Changed}
use Rattle.rp_register_state.specs.declared.reply.Row.{Row as CodeRow}
use Rattle.rp_register_state.specs.declared.reply.Row.TheVariants.{Replied, Neighbours, Audit, Access, Section}

-- ---- replies

-- the change of a reply
abbrev pub change_in : {F : Type 0} → (F → List Part) → Reply F → ModelChange (Unit {0})
change_in view (Told lines) = nothing_changes
change_in view (Changed c) = change_of view c

-- the reply of the model for a reply of the code
abbrev pub reply_of : {F : Type 0} → (F → List Part) → Reply F → ModelReply
reply_of view (Told lines) = reply_lines (map verdict_of lines.items)
reply_of view (Changed c) = accepted (change_of view c)

-- the row of a command has the reply, or the end, with the given work
abbrev pub Replies : {W F : Type 0} → (F → List Part) → Result (Reply F) RowEnd → W → Outcome W ModelReply → Type 0
Replies view (Ok r) w o = o ≡ done (reply_of view r) w
Replies view (Err e) w o = EndsBy e w o

-- the result of a question, as a reply
abbrev pub reply_told : {F : Type 0} → Result (Listed CodeVerdict) RowEnd → Result (Reply F) RowEnd
reply_told (Ok lines) = Ok (Told lines)
reply_told (Err e) = Err e

-- ---- rows that are the same for a run and a check

-- the rest of a row
abbrev pub rest_of : {W F : Type 0} → Tester W → (F → List Part) → PlainState → CodeRow F → Walk W ModelReply
rest_of tester view s (Replied r) = pass (reply_of view r)
rest_of tester view s (Neighbours x) = row_neighbours tester s x
rest_of tester view s Audit = row_audit tester s
rest_of tester view s (Access x y) = row_access tester s x y
rest_of tester view s (Section f z) = row_section tester z (view f)

-- the form to be sliced has at most 1,024 parts, and the height is one of the cube
abbrev pub IsReadyRow : {F : Type 0} → (F → List Part) → CodeRow F → Type 0
IsReadyRow view (Section f z) = (length (view f) ≤ most_parts) × IsHeight z
IsReadyRow view _ = Unit {0}

-- the result of a question, as a row
abbrev pub row_told : {F : Type 0} → Result (Listed CodeVerdict) RowEnd → Result (CodeRow F) RowEnd
row_told (Ok lines) = Ok (Replied (Told lines))
row_told (Err e) = Err e

-- the result of a command that changes something, as a row
abbrev pub row_changed : {F : Type 0} → Result (Change F) RowEnd → Result (CodeRow F) RowEnd
row_changed (Ok c) = Ok (Replied (Changed c))
row_changed (Err e) = Err e
