use Rattle.std.proofs.Common.{take}
use Rattle.rp_clip.specs.Polygons.{IsPositiveAtAll}
use Rattle.rp_clip.proofs.polygon.is_positive_at_all.Given as goal

-- it is positive at the points so far
abbrev pub invariant-loop-corner : goal.invariant-loop-corner
invariant-loop-corner l = IsPositiveAtAll l.h (take l.corner-index l.corners)
