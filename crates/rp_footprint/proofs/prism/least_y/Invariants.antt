use Rattle.std.proofs.Common.{◌≡◌, drop}
use Rattle.rp_geometry.specs.parts.Trapezoid.{least_from, least_y}
use Rattle.rp_space.specs.Corners.{polygon_corners}
use Rattle.rp_footprint.proofs.prism.least_y.Given as goal

abbrev pub invariant-loop-corner : goal.invariant-loop-corner
invariant-loop-corner l = least_from l.least (polygon_corners (drop l.corner-index l.corners)) ≡ least_y (polygon_corners l.corners)
