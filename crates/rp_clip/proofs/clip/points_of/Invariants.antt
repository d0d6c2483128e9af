use Rattle.std.proofs.Common.{◌≡◌, ◌≤◌, take, length, map}
use Rattle.rp_geometry.specs.Geometry.{reduced_point}
use Rattle.rp_clip.proofs.clip.points_of.Given as goal

-- the points so far
abbrev pub invariant-loop-corner : goal.invariant-loop-corner
invariant-loop-corner g l = record { so_far : l.points.items ≡ map reduced_point (take l.corner-index l.corners); few : length l.points.items ≤ l.corner-index }
