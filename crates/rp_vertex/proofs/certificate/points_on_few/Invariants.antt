use Rattle.std.proofs.Common.{length}
use Rattle.rp_convex.proofs.Rounds.{IsFar}
use Rattle.rp_vertex.proofs.certificate.points_on_few.Given as goal

-- the points taken are as the search has them
abbrev pub invariant-loop-way : goal.invariant-loop-way
invariant-loop-way l = IsFar l.system l.fn.first l.flat.items l.taken

-- the flat half-spaces become fewer
abbrev pub decreases-loop-way : goal.decreases-loop-way
decreases-loop-way l = length l.flat.items
