-- Half-spaces whose planes are level or upright, by the coefficients that are 0.
use Rattle.std.specs.Prelude.{◌≡◌, pos}
use Rattle.rp_geometry.specs.Geometry.{HalfSpace}

-- the first two coefficients are 0
pub record IsLevel (h : HalfSpace) : Type 0 where
  pub a : h.a ≡ pos 0
  pub b : h.b ≡ pos 0

-- the third coefficient of the first two is 0, and the first two of the third are
pub record IsLevelWithUpright (f g h : HalfSpace) : Type 0 where
  pub first : f.c ≡ pos 0
  pub second : g.c ≡ pos 0
  pub level : IsLevel h
