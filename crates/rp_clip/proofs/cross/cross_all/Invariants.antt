use Rattle.rp_clip.proofs.Filled.{IsFilledAll}
use Rattle.rp_clip.proofs.cross.cross_all.Given as goal

-- the crossings from the vertices so far are in the table
abbrev pub invariant-loop-i : goal.invariant-loop-i
invariant-loop-i g l = IsFilledAll g.row.MOST l.planes l.h l.table.points l.fn.more l.i l.more
