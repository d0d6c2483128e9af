-- Planes that are cut off by a parallel half-space.
use Rattle.std.specs.Prelude.{Bool, ◌&&◌, ◌||◌, int_lt, List}
use Rattle.std.specs.List.{list_any}
use Rattle.rp_algebra.specs.Integer.{int_eq}
use Rattle.rp_geometry.specs.Geometry.{HalfSpace, complement}

-- two half-spaces have the same coefficients
abbrev pub have_same_normal : HalfSpace → HalfSpace → Bool
have_same_normal f g = int_eq g.a f.a && (int_eq g.b f.b && int_eq g.c f.c)

-- the second half-space has the coefficients of the first and a lesser offset, so it is further inside
abbrev pub is_further : HalfSpace → HalfSpace → Bool
is_further f g = have_same_normal f g && int_lt g.d f.d

-- the second half-space is further inside than the first or its complement: it is negative on their plane
abbrev pub cuts_off : HalfSpace → HalfSpace → Bool
cuts_off f g = is_further f g || is_further (complement f) g

-- some half-space of the list cuts the plane off
abbrev pub is_cut_off : List HalfSpace → HalfSpace → Bool
is_cut_off system f = list_any (cuts_off f) system
