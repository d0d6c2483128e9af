-- Searches among the sets of which one half-space of a list is held fast: the others follow one another by their places, and it stands in its place among them.
use Rattle.std.specs.Prelude.{Bool, true, false, List, ◌++◌, map, Option, Some, None}
use Rattle.rp_geometry.specs.Geometry.{HalfSpace}
use Rattle.rp_geometry.specs.searches.Certificate.{Multiple}
use Rattle.rp_geometry.specs.searches.Search.{first_of, first_of_pairs, first_of_triples}
use Rattle.rp_geometry.specs.searches.Elimination.{refutation_of_one, refutation_of_two, refutation_of_three, refutation_of_four}
use Rattle.rp_elim.specs.declared.placed.Placed.{Placed}

-- a half-space that comes before the fixed one (true), or after it (false)
abbrev pub placed_at : Bool → HalfSpace → Placed
placed_at b h = record { half = h; before = b }

-- the half-spaces before the fixed one, then those after it
abbrev pub placed_list : List HalfSpace → List HalfSpace → List Placed
placed_list before behind = map (placed_at true) before ++ map (placed_at false) behind

-- ---- a function of half-spaces in the order of their places, where k is fixed
-- the function of k and one other
abbrev pub two_in_order : {B : Type 0} → (HalfSpace → HalfSpace → Option B) → HalfSpace → Placed → Option B
two_in_order f k p = elim p.before [ true ↦ f p.half k | false ↦ f k p.half ]

-- the function of k and two others
abbrev pub three_in_order : {B : Type 0} → (HalfSpace → HalfSpace → HalfSpace → Option B) → HalfSpace → Placed → Placed → Option B
three_in_order f k p q = elim p.before [ true ↦ two_in_order (f p.half) k q | false ↦ f k p.half q.half ]

-- the function of k and three others
abbrev pub four_in_order : {B : Type 0} → (HalfSpace → HalfSpace → HalfSpace → HalfSpace → Option B) → HalfSpace → Placed → Placed → Placed → Option B
four_in_order f k p q r = elim p.before [ true ↦ three_in_order (f p.half) k q r | false ↦ f k p.half q.half r.half ]

-- ---- the search
-- the first refutation by k and others, by number of terms and then by places
abbrev pub first_through : Bool → HalfSpace → List Placed → Option (List Multiple)
first_through strict k others =
    elim (refutation_of_one strict k) [
      | Some terms ↦ Some terms
      | None ↦ elim (first_of (two_in_order (refutation_of_two strict) k) others) [
        | Some terms ↦ Some terms
        | None ↦ elim (first_of_pairs (three_in_order (refutation_of_three strict) k) others) [
          | Some terms ↦ Some terms
          | None ↦ first_of_triples (four_in_order (refutation_of_four strict) k) others
        ]
      ]
    ]
