use Rattle.std.proofs.Common.{◌≡◌, ◌++◌, map, drop}
use Rattle.rp_model.specs.commands.Verdict.{lot_lines}
use Rattle.rp_answer.specs.Views.{verdict_of}
use Rattle.rp_rows.specs.Lots.{lots_under}
use Rattle.rp_rows.proofs.lot_lines.add_each.Given as goal

-- the lines so far and those of the ids still to come are all lines
abbrev pub invariant-loop-id : goal.invariant-loop-id
invariant-loop-id l = map verdict_of l.lines.items ++ lot_lines (lots_under (drop l.id-index l.ids) l.history) ≡ map verdict_of l.fn.lines.items ++ lot_lines (lots_under l.ids l.history)
