-- The corners of the code as those of the definitions.
use Rattle.std.specs.Prelude.{ℤ, List, map}
use Rattle.rp_geometry.specs.sets.Prism.{Corner, Prism}
use Rattle.rp_space.specs.declared.corner.Corner.{Corner as Written}

-- the corner of the definitions for a corner of the code
abbrev pub polygon_corner : Written → Corner
polygon_corner c = record { x = c.x; y = c.y }

-- the corners of the definitions for corners of the code
abbrev pub polygon_corners : List Written → List Corner
polygon_corners cs = map polygon_corner cs

-- the prism of two heights and some corners
abbrev pub prism_of : ℤ → ℤ → List Written → Prism
prism_of low high cs = record { low = low; high = high; corners = polygon_corners cs }
