-- The search for a refutation of few terms.
use Rattle.std.specs.Prelude.{Bool, List, Option, Some, None}
use Rattle.rp_geometry.specs.Geometry.{HalfSpace, cube_half_spaces}
use Rattle.rp_geometry.specs.searches.Certificate.{Multiple}
use Rattle.rp_geometry.specs.searches.Search.{first_of, first_of_pairs}
use Rattle.rp_geometry.specs.searches.Elimination.{refutation_of_one, refutation_of_two}

-- the first refutation by one half-space of a list; if there is none, by two
abbrev pub first_of_two : Bool → List HalfSpace → Option (List Multiple)
first_of_two strict hs = elim (first_of (refutation_of_one strict) hs) [ Some terms ↦ Some terms | None ↦ first_of_pairs (refutation_of_two strict) hs ]

-- the first refutation by the last half-space of a cell alone, or else with one of those before it, or with one of the cube's
abbrev pub first_with_last : Bool → List HalfSpace → HalfSpace → Option (List Multiple)
first_with_last strict others last =
    elim (refutation_of_one strict last) [
      | Some terms ↦ Some terms
      | None ↦ elim (first_of (λ g. refutation_of_two strict g last) others) [
        | Some terms ↦ Some terms
        | None ↦ first_of (refutation_of_two strict last) cube_half_spaces
      ]
    ]
