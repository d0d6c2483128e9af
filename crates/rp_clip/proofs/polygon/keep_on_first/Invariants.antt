use Rattle.rp_clip.proofs.Polygons.{IsKeptOn}
use Rattle.rp_clip.proofs.polygon.keep_on_first.Given as goal

-- the points so far that are on the first plane
abbrev pub invariant-loop-i : goal.invariant-loop-i
invariant-loop-i l = IsKeptOn l.cell l.sorted l.from.points l.i l.to
