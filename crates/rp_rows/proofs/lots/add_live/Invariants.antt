use Rattle.std.proofs.Common.{◌≡◌, ◌++◌, map, drop}
use Rattle.rp_model.specs.states.State.{live_lots}
use Rattle.rp_model.specs.commands.Verdict.{lot_lines}
use Rattle.rp_proximity.specs.Near.{lots_at}
use Rattle.rp_answer.specs.Views.{verdict_of}
use Rattle.rp_rows.proofs.lots.add_live.Given as goal

-- the lines so far and those of the lots still to come are all lines
abbrev pub invariant-loop-place : goal.invariant-loop-place
invariant-loop-place l = map verdict_of l.lines.items ++ lot_lines (lots_at l.history (drop l.place-index l.place-items)) ≡ map verdict_of l.fn.lines.items ++ lot_lines (live_lots l.history)
