-- The common point of three planes with a positive weight.
use Rattle.std.specs.Prelude.{true, false, Option, Some, None}
use Rattle.rp_algebra.specs.Integer.{is_zero, is_positive}
use Rattle.rp_geometry.specs.Geometry.{RationalPoint}
use Rattle.rp_geometry.specs.searches.Vertex.{negated_point}

-- the point with a positive weight, not in lowest terms; none if the weight is 0
abbrev pub positive_point : RationalPoint → Option RationalPoint
positive_point p = elim (is_zero p.w) [ true ↦ None | false ↦ elim (is_positive p.w) [ true ↦ Some p | false ↦ Some (negated_point p) ] ]
