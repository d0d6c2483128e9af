use Rattle.std.proofs.Common.{◌≡◌, drop, map}
use Rattle.std.specs.Prelude.{None, option_map}
use Rattle.rp_geometry.specs.Geometry.{reduced_point}
use Rattle.rp_space.specs.Boxes.{integer_box}
use Rattle.rp_vertex.specs.Joined.{joined}
use Rattle.rp_vertex.proofs.bounds.box_of_points.Given as goal

-- what is joined so far, with the points that are left, comes to all
abbrev pub invariant-loop-p : goal.invariant-loop-p
invariant-loop-p l =
    joined (option_map integer_box l.bounds) (map reduced_point (drop l.p-index l.points))
    ≡ joined None (map reduced_point l.points)
