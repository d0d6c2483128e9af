-- The coefficients of a half-space, by axis.
use Rattle.std.specs.Prelude.{Bool, true, false, ◌&&◌, ◌||◌, ℤ, neg_ℤ, List, [], ◌∷◌}
use Rattle.rp_algebra.specs.Integer.{is_zero, is_positive, is_negative}
use Rattle.rp_geometry.specs.Geometry.{HalfSpace}
use Rattle.rp_geometry.specs.searches.Certificate.{Multiple}
use Rattle.rp_geometry.specs.searches.Vertex.{det2}
use Rattle.rp_geometry.specs.searches.Elimination.{multiple_of}
use Rattle.rp_elim.specs.declared.minors.Axis.{Axis}
use Rattle.rp_elim.specs.declared.minors.Axis.TheVariants.{X, Y, Z}

-- the coefficient of the given axis
abbrev pub along : Axis → HalfSpace → ℤ
along X h = h.a
along Y h = h.b
along Z h = h.c

-- two half-spaces with one coefficient of each: the multiples that cancel it
abbrev pub minors_on_axis : HalfSpace → HalfSpace → (HalfSpace → ℤ) → List Multiple
minors_on_axis f g u = multiple_of (u g) f ∷ multiple_of (neg_ℤ (u f)) g ∷ []

-- the 2 by 2 determinant of two half-spaces on two axes
abbrev pub minor_on : Axis × Axis → HalfSpace → HalfSpace → ℤ
minor_on axes f g = det2 (along axes.0 f) (along axes.1 f) (along axes.0 g) (along axes.1 g)

-- the first two axes on which two half-spaces are independent; the last two axes if there are none
abbrev pub axes_of : HalfSpace → HalfSpace → Axis × Axis
axes_of f g =
    elim (is_zero (det2 f.a f.b g.a g.b)) [
      | false ↦ (X, Y)
      | true ↦ elim (is_zero (det2 f.a f.c g.a g.c)) [ false ↦ (X, Z) | true ↦ (Y, Z) ]
    ]

-- all three coefficients are 0
abbrev pub is_without_normal : HalfSpace → Bool
is_without_normal h = is_zero h.a && is_zero h.b && is_zero h.c

-- two half-spaces have dependent normals: the 2 by 2 determinants on each two axes are 0
abbrev pub are_parallel : HalfSpace → HalfSpace → Bool
are_parallel f g = is_zero (det2 f.a f.b g.a g.b) && is_zero (det2 f.a f.c g.a g.c) && is_zero (det2 f.b f.c g.b g.c)

-- positive multiples of two numbers may cancel: one is above 0 and the other below, or both are 0
abbrev pub are_opposed : ℤ → ℤ → Bool
are_opposed v w = is_positive v && is_negative w || is_negative v && is_positive w || is_zero v && is_zero w

-- positive multiples of three numbers may cancel: one is above 0 and one below, or all are 0
abbrev pub are_mixed : ℤ → ℤ → ℤ → Bool
are_mixed u v w = (is_positive u || is_positive v || is_positive w) && (is_negative u || is_negative v || is_negative w) || is_zero u && is_zero v && is_zero w

-- positive multiples of three normals may cancel: the coefficients are mixed on each axis
abbrev pub may_three_cancel : HalfSpace → HalfSpace → HalfSpace → Bool
may_three_cancel f g h = are_mixed f.a g.a h.a && are_mixed f.b g.b h.b && are_mixed f.c g.c h.c

-- positive multiples of two normals may cancel: the coefficients are opposed on each axis
abbrev pub may_cancel : HalfSpace → HalfSpace → Bool
may_cancel f g = are_opposed f.a g.a && are_opposed f.b g.b && are_opposed f.c g.c
