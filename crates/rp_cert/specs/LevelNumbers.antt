-- The numbers of a half-space on the plane of a height, by name.
use Rattle.std.specs.Prelude.{ℤ}
use Rattle.rp_geometry.specs.Geometry.{HalfSpace}
use Rattle.rp_geometry.specs.sections.Trace.{offset_at}
use Rattle.rp_cert.specs.declared.flat.Number.{Number}
use Rattle.rp_cert.specs.declared.flat.Number.TheVariants.{A, B, Offset}

-- the number with the given name
abbrev pub number_at : Number → ℤ → HalfSpace → ℤ
number_at A z h = h.a
number_at B z h = h.b
number_at Offset z h = offset_at z h
