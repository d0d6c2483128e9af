-- The result of making a point from four numbers: the point in lowest terms, or a fault.
use Rattle.std.specs.Prelude.{true, false, int_le, pos, Result, Ok, Err}
use Rattle.rp_geometry.specs.Geometry.{RationalPoint, is_point_in_bounds, reduced_point}
use Rattle.rp_space.specs.declared.point.PointFault.{PointFault}
use Rattle.rp_space.specs.declared.point.PointFault.TheVariants.{Weight, Range}

-- the point of four numbers in lowest terms; its weight is tested first, then the bounds, on the given numbers
abbrev pub made_point : RationalPoint → Result RationalPoint PointFault
made_point p =
    elim (int_le (pos 1) p.w) [
      | false ↦ Err Weight
      | true ↦ elim (is_point_in_bounds p) [ false ↦ Err Range | true ↦ Ok (reduced_point p) ]
    ]
