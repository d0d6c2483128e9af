-- The words of searches, and the size of what a search finds in a cell.
use Rattle.std.specs.Prelude.{ℕ, true, false, List, Option, Some, None, length, codes}
use Rattle.std.specs.Option.{option_map}
use Rattle.std.specs.Str.{bytes_eq}
use Rattle.rp_geometry.specs.Geometry.{HalfSpace}
use Rattle.rp_geometry.specs.searches.Vertex.{first_inside}
use Rattle.rp_geometry.specs.searches.Elimination.{first_outside}
use Rattle.rp_bench.specs.declared.search.Search.{Search}
use Rattle.rp_bench.specs.declared.search.Search.TheVariants.{Decide, Inside, Along, Outside, Apart}

-- the word of a search, in the question and in the answer
abbrev pub word_of : Search → List ℕ
word_of Decide = codes "decide"
word_of Inside = codes "inside"
word_of Along = codes "along"
word_of Outside = codes "outside"
word_of Apart = codes "apart"

-- the search with the given word, if there is one
abbrev pub search_of : List ℕ → Option Search
search_of word =
    elim (bytes_eq word (codes "decide")) [
      | true ↦ Some Decide
      | false ↦ elim (bytes_eq word (codes "inside")) [
        | true ↦ Some Inside
        | false ↦ elim (bytes_eq word (codes "along")) [
          | true ↦ Some Along
          | false ↦ elim (bytes_eq word (codes "outside")) [
            | true ↦ Some Outside
            | false ↦ elim (bytes_eq word (codes "apart")) [ true ↦ Some Apart | false ↦ None ]
          ]
        ]
      ]
    ]

-- the number of points of the first inside certificate, or of terms of the first outside certificate that is strict or is not; a decision finds the one or the other
abbrev pub size_found : Search → List HalfSpace → Option ℕ
size_found Decide cell = elim (first_inside cell) [ Some points ↦ Some (length points) | None ↦ option_map length (first_outside true cell) ]
size_found Inside cell = option_map length (first_inside cell)
size_found Along cell = option_map length (first_inside cell)
size_found Outside cell = option_map length (first_outside true cell)
size_found Apart cell = option_map length (first_outside false cell)
