use Rattle.std.proofs.Common.{map}
use Rattle.rp_cell.specs.Lines.{drop_line_of}
use Rattle.rp_cell.proofs.SlimSoFar.{IsSlimSoFar}
use Rattle.rp_cell.proofs.held.Held.slim.Given as goal

-- what is kept and dropped so far, with what the rest comes to, is the slim cell
abbrev pub invariant-loop-i : goal.invariant-loop-i
invariant-loop-i l = IsSlimSoFar l.self l.i l.kept.items (map drop_line_of l.dropped.items)
