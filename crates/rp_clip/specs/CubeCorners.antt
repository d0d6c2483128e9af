-- The eight corners of the closed cube, in the order of the cube's half-spaces.
use Rattle.std.specs.Prelude.{Bool, true, false, ℤ, pos, neg_ℤ, cond, List, [], ◌∷◌}
use Rattle.rp_geometry.specs.Geometry.{RationalPoint, point_of, cube_bound}

-- the lower or the upper edge of the cube, as a coordinate
abbrev pub edge_of : Bool → ℤ
edge_of is_upper = cond is_upper cube_bound (neg_ℤ cube_bound)

-- the corner at the lower or the upper edge of x, of y and of z
abbrev pub cube_corner : Bool → Bool → Bool → RationalPoint
cube_corner x y z = point_of (edge_of x) (edge_of y) (edge_of z) (pos 1)

-- the eight corners
abbrev pub cube_corners : List RationalPoint
cube_corners =
    cube_corner false false false ∷ cube_corner false false true ∷ cube_corner false true false ∷ cube_corner false true true
    ∷ cube_corner true false false ∷ cube_corner true false true ∷ cube_corner true true false ∷ cube_corner true true true ∷ []
