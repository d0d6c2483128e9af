use Rattle.std.proofs.Common.{◌≡◌, ◌∷◌, ◌++◌, map, drop}
use Rattle.rp_model.specs.commands.Verdict.{Verdict}
use Rattle.rp_answer.specs.Views.{verdict_of}
use Rattle.rp_rows.proofs.lot_lines.parcel_lines.Given as goal

-- the lines so far and those of the ids still to come are all lines
abbrev pub invariant-loop-id : goal.invariant-loop-id
invariant-loop-id l = map verdict_of l.lines.items ++ map Verdict.parcel (drop l.id-index l.ids) ≡ verdict_of l.fn.first ∷ map Verdict.parcel l.ids
