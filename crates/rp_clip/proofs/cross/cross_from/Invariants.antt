use Rattle.rp_clip.proofs.Filled.{IsFilledFrom}
use Rattle.rp_clip.proofs.cross.cross_from.Given as goal

-- the crossings with the vertices so far are in the table
abbrev pub invariant-loop-low : goal.invariant-loop-low
invariant-loop-low g l = IsFilledFrom g.row.MOST l.planes l.h l.below l.set l.fn.more l.low-index l.more
