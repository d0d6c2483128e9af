-- The least box around the vertices met so far.
use Rattle.std.specs.Prelude.{◌≡◌, List, [], ◌∷◌, Option, Some, None}
use Rattle.rp_geometry.specs.Geometry.{RationalPoint, HalfSpace, IntegerBox, with_cube}
use Rattle.rp_geometry.specs.parts.LeastBox.{box_of_vertex, box_union}

-- the list is the system of some cell, with the cube's six half-spaces
abbrev pub HasCube : List HalfSpace → Type 0
HasCube system = (cell : List HalfSpace) × (system ≡ with_cube cell)

-- the least box around a box, if there is one yet, and a vertex
abbrev pub join_vertex : Option IntegerBox → RationalPoint → IntegerBox
join_vertex None p = box_of_vertex p
join_vertex (Some b) p = box_union b (box_of_vertex p)

-- the least box around a box, if there is one yet, and the vertices of a list; none if there is neither
abbrev pub joined : Option IntegerBox → List RationalPoint → Option IntegerBox
joined bounds [] = bounds
joined bounds (p ∷ ps) = joined (Some (join_vertex bounds p)) ps
