use Rattle.std.proofs.Common.{◌≡◌, ◌++◌, map}
use Rattle.std.specs.Vec.Iter.{into_iter_items}
use Rattle.rp_model.specs.commands.Verdict.{Verdict, piece_lines}
use Rattle.rp_answer.specs.Views.{verdict_of}
use Rattle.rp_unionfind.specs.Lists.{numbers_of}
use Rattle.rp_rows.proofs.lines.piece_lines.Given as goal

-- the lines so far and those of the pieces still to come are all lines
abbrev pub invariant-loop-numbers : goal.invariant-loop-numbers
invariant-loop-numbers l = map verdict_of l.lines.items ++ map (λ ns. Verdict.piece ns.items) (into_iter_items l.numbers-iterator) ≡ piece_lines (numbers_of l.fn.pieces)
