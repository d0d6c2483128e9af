-- Tests only append proof lines.
use Rattle.std.specs.Prelude.{List, [], ◌∷◌, refl}
use Rattle.rp_geometry.specs.Geometry.{HalfSpace}
use Rattle.rp_geometry.specs.searches.ProofLine.{strict_line, weak_line}
use Rattle.rp_semantics.specs.Walk.{strict_test, weak_test}
use Rattle.rp_region.specs.Makes.{OnlyTells}

-- a strict test only appends proof lines
pub strict_tells : (cell : List HalfSpace) → OnlyTells (strict_test cell)
unfolding strict_test
strict_tells cell = record { tells = λ w. record { more = strict_line cell ∷ []; lines = refl } }

-- a weak test only appends proof lines
pub weak_tells : (cell : List HalfSpace) → OnlyTells (weak_test cell)
unfolding weak_test
weak_tells cell = record { tells = λ w. record { more = weak_line cell ∷ []; lines = refl } }
