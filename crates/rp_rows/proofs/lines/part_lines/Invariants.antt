use Rattle.std.proofs.Common.{◌≡◌, ◌++◌, map}
use Rattle.std.specs.Vec.Iter.{into_iter_items}
use Rattle.rp_model.specs.commands.Verdict.{Verdict, part_lines_of}
use Rattle.rp_answer.specs.Views.{verdict_of}
use Rattle.rp_rows.proofs.lines.part_lines.Given as goal

-- the lines so far and those of the parts still to come are all lines
abbrev pub invariant-loop-part : goal.invariant-loop-part
invariant-loop-part g l = map verdict_of l.lines.items ++ map (λ p. Verdict.part (g.T.Oracle.seen p).cell) (into_iter_items l.part-iterator) ≡ part_lines_of (g.T.Oracle.parts_of l.fn.form)
