use Rattle.rp_clip.specs.Taken.{IsTakenTo}
use Rattle.rp_clip.proofs.Searched.{NoneBefore}
use Rattle.rp_clip.proofs.search.inside_on_polygons.Given as goal

-- the points taken, and that no vertex on a plane of before is wanted
abbrev pub invariant-loop-place : goal.invariant-loop-place
invariant-loop-place l = record { taken : IsTakenTo l.planes l.left l.taken; none : NoneBefore l.planes l.place l.left }
