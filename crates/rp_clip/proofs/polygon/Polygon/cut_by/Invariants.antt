use Rattle.rp_clip.proofs.Polygons.{IsSortedTo}
use Rattle.rp_clip.proofs.polygon.Polygon.cut_by.Given as goal

-- the half-spaces of the places so far
abbrev pub invariant-loop-rank : goal.invariant-loop-rank
invariant-loop-rank l = IsSortedTo l.cell l.order l.rank l.self.halves
