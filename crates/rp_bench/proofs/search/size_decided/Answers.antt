use Rattle.std.proofs.Common.{◌≡◌, ◌∙◌, List, Option, Some, None, true, length, ap, sym}
use Rattle.std.specs.Option.{option_map}
use Rattle.rp_geometry.specs.Geometry.{RationalPoint, HalfSpace}
use Rattle.rp_geometry.specs.searches.Certificate.{Multiple}
use Rattle.rp_geometry.specs.searches.Vertex.{first_inside}
use Rattle.rp_geometry.specs.searches.Elimination.{first_outside}
use Rattle.rp_geometry.specs.searches.ProofLine.{ProofLine, in_line, out_line, outside_terms, strict_line}
use Rattle.rp_bench.specs.declared.search.Search.TheVariants.{Decide}
use Rattle.rp_bench.specs.Found.{size_found}
use Rattle.rp_bench.proofs.search.size_decided.Goals as goal

-- where the line of a test tells multiples, there is no inside certificate
size_where_told : (cell : List HalfSpace) (terms : List Multiple) (o : Option (List RationalPoint)) → out_line terms ≡ elim o as (λ _. ProofLine) [ Some points ↦ in_line points | None ↦ out_line (outside_terms true cell) ]
    → first_outside true cell ≡ Some terms → Some (length terms) ≡ elim o [ Some points ↦ Some (length points) | None ↦ option_map length (first_outside true cell) ]
size_where_told cell terms (Some points) line first = absurd (cc)
size_where_told cell terms None line first = sym (ap (option_map length) first)

-- so the size of the multiples is the one that is found
size_of_terms : (cell : List HalfSpace) (terms : List Multiple) → out_line terms ≡ strict_line cell → first_outside true cell ≡ Some terms → Some (length terms) ≡ size_found Decide cell
unfolding strict_line
size_of_terms cell terms line first = size_where_told cell terms (first_inside cell) line first

pub returns-in-Outside-clause-size : goal.returns-in-Outside-clause-size
returns-in-Outside-clause-size c =
    let value = c.items-in-Outside.ensures.value in
    size_of_terms c.args.cell.now c.items-in-Outside.result.now (ap out_line value ∙ c.in-Outside.ensures.line) (c.in-Outside.ensures.decides.0 ∙ sym (ap Some value))
