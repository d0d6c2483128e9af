use Rattle.rp_clip.proofs.Best.{IsBest}
use Rattle.rp_clip.proofs.first.first_vertex.Given as goal

-- the best of the vertices so far
abbrev pub invariant-loop-i : goal.invariant-loop-i
invariant-loop-i g l = IsBest l.planes l.set l.table.points l.i l.best
