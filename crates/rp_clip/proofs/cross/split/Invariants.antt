use Rattle.rp_clip.proofs.Kept.{IsSplitUpTo}
use Rattle.rp_clip.proofs.cross.split.Given as goal

-- the points so far that are not below, each with its places, and the places of the others
abbrev pub invariant-loop-i : goal.invariant-loop-i
invariant-loop-i g l = IsSplitUpTo l.planes l.h l.table.points l.i l.kept l.below.items
