use Rattle.std.proofs.Common.{◌^◌, ◌<◌}
use Rattle.rp_clip.specs.Taken.{IsTakenTo, IsWithin}
use Rattle.rp_clip.proofs.inside.take_from.Given as goal

-- the points taken, and the planes of the set through all of them
abbrev pub invariant-loop-next : goal.invariant-loop-next
invariant-loop-next g l = record { taken : IsTakenTo l.planes l.left l.taken; within : IsWithin l.planes l.left l.set; small : l.left < 2 ^ 128 }

-- what is left becomes smaller
abbrev pub decreases-loop-next : goal.decreases-loop-next
decreases-loop-next g l = l.left
