-- Two half-spaces as one value.
use Rattle.rp_geometry.specs.Geometry.{HalfSpace}

-- two half-spaces
pub record TwoHalfSpaces : Type 0 where
  pub first : HalfSpace
  pub second : HalfSpace

-- the two half-spaces as one value
abbrev pub two_of : HalfSpace → HalfSpace → TwoHalfSpaces
two_of f g = record { first = f; second = g }
