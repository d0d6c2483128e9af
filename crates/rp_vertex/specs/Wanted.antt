-- The vertices that a search is for.
use Rattle.std.specs.Prelude.{Bool, false, ◌||◌, List}
use Rattle.std.specs.List.{list_all}
use Rattle.rp_geometry.specs.Geometry.{RationalPoint, HalfSpace, half_space_eq}
use Rattle.rp_geometry.specs.searches.Vertex.{any_point, lifts}
use Rattle.rp_vertex.specs.declared.search.Wanted.{Wanted}
use Rattle.rp_vertex.specs.declared.search.Wanted.TheVariants.{Any, Lifting}

-- the test of the vertices that the search is for
abbrev pub is_wanted : Wanted → RationalPoint → Bool
is_wanted Any p = any_point p
is_wanted (Lifting flat) p = lifts flat.now p

-- each of the half-spaces is one of two
abbrev pub are_among : List HalfSpace → HalfSpace → HalfSpace → Bool
are_among hs f g = list_all (λ h. half_space_eq h f || half_space_eq h g) hs

-- each of the half-spaces to be lifted is one of the two
abbrev pub lie_within : Wanted → HalfSpace → HalfSpace → Bool
lie_within Any f g = false
lie_within (Lifting flat) f g = are_among flat.now f g
