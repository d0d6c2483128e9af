-- The result of making a half-space from four numbers: the half-space in lowest terms, or a fault.
use Rattle.std.specs.Prelude.{true, false, Result, Ok, Err}
use Rattle.rp_geometry.specs.Geometry.{HalfSpace, is_half_space_in_bounds, is_zero_half_space, reduced_half_space}
use Rattle.rp_space.specs.declared.half.HalfFault.{HalfFault}
use Rattle.rp_space.specs.declared.half.HalfFault.TheVariants.{Range, Zero}

-- the half-space of four numbers in lowest terms; the bounds are tested first, on the given numbers
abbrev pub made_half_space : HalfSpace → Result HalfSpace HalfFault
made_half_space h =
    elim (is_half_space_in_bounds h) [
      | false ↦ Err Range
      | true ↦ elim (is_zero_half_space h) [ true ↦ Err Zero | false ↦ Ok (reduced_half_space h) ]
    ]
