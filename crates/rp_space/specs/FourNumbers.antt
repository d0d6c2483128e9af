-- The four numbers of a half-space, by name.
use Rattle.std.specs.Prelude.{ℤ}
use Rattle.rp_geometry.specs.Geometry.{HalfSpace}
use Rattle.rp_space.specs.declared.multiples.Number.{Number}
use Rattle.rp_space.specs.declared.multiples.Number.TheVariants.{A, B, C, D}

-- the number with the given name
abbrev pub number_of : Number → HalfSpace → ℤ
number_of A h = h.a
number_of B h = h.b
number_of C h = h.c
number_of D h = h.d
