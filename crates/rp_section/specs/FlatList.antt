-- The first flat certificate among the half-spaces of a list.
use Rattle.std.specs.Prelude.{ℤ, List, Option, Some, None}
use Rattle.rp_geometry.specs.Geometry.{HalfSpace}
use Rattle.rp_geometry.specs.searches.Certificate.{Multiple}
use Rattle.rp_geometry.specs.searches.Search.{first_of, first_of_pairs, first_of_triples}
use Rattle.rp_geometry.specs.sections.Flat.{flat_of_one, flat_of_two, flat_of_three}

-- the first flat certificate: by one half-space of the list; if there is none, by two; if there is none, by three
abbrev pub flat_in : ℤ → List HalfSpace → Option (List Multiple)
flat_in z hs =
    elim (first_of (flat_of_one z) hs) [
      | Some terms ↦ Some terms
      | None ↦ elim (first_of_pairs (flat_of_two z) hs) [
        | Some terms ↦ Some terms
        | None ↦ first_of_triples (flat_of_three z) hs
      ]
    ]
