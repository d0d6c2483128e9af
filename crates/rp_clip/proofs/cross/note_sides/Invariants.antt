use Rattle.std.proofs.Common.{◌≡◌, ◌≤◌, take, length, map}
use Rattle.rp_geometry.specs.Geometry.{reduced_point}
use Rattle.rp_clip.specs.Sides.{side_of}
use Rattle.rp_clip.proofs.cross.note_sides.Given as goal

-- the sides so far
abbrev pub invariant-loop-corner : goal.invariant-loop-corner
invariant-loop-corner g l = record { so_far : l.sides.items ≡ map (side_of l.h) (map reduced_point (take l.corner-index l.corners)); few : length l.sides.items ≤ l.corner-index }
