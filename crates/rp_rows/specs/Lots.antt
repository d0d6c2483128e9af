-- Lots found by their ids, the verdict lines of live lots, and the entries of a history.
use Rattle.std.specs.Prelude.{List, [], ◌∷◌, ◌++◌, length, Result}
use Rattle.std.specs.Option.{option_to_list}
use Rattle.rp_language.specs.Name.{Label}
use Rattle.rp_model.specs.states.State.{Lot, lot_with_id, live_lots}
use Rattle.rp_model.specs.commands.Verdict.{Verdict, lot_lines}
use Rattle.rp_model.specs.commands.History.{row_history}
use Rattle.rp_history.specs.Lots.{lots_in}
use Rattle.rp_lists.specs.Listed.{Listed}
use Rattle.rp_answer.specs.declared.answer.Verdict.{Verdict as CodeVerdict}
use Rattle.rp_answer.specs.declared.reply.RowEnd.{RowEnd}
use Rattle.rp_answer.specs.Replies.{Tells}

-- the lots with some ids, in the order of the ids
abbrev pub lots_under : {S : Type 0} → List Label → List (Lot S) → List (Lot S)
lots_under [] lots = []
lots_under (x ∷ ids) lots = option_to_list (lot_with_id x lots) ++ lots_under ids lots

-- the verdict lines of the live lots, after their number
abbrev pub list_lines : {S : Type 0} → List (Lot S) → List Verdict
list_lines lots = Verdict.parcels (length (live_lots lots)) ∷ lot_lines (live_lots lots)

-- the row of history was answered from some lots, without any work
abbrev pub TellsHistory : Result (Listed CodeVerdict) RowEnd → Label → List (Lot (Unit {0})) → Type 0
TellsHistory r x lots = Tells r (tt {0}) (row_history (lots_in [] lots) x (tt {0}))
