use Rattle.std.proofs.Common.{◌≡◌, true, Some}
use Rattle.std.specs.Prelude.{IsTrue}
use Rattle.rp_algebra.proofs.Options.{of_some}
use Rattle.rp_geometry.specs.sets.Shape.{shape_of_cell}
use Rattle.rp_geometry.specs.sets.Sets.{IsEmpty}
use Rattle.rp_geometry.specs.searches.Certificate.{is_outside_certificate}
use Rattle.rp_geometry.specs.searches.Elimination.{first_outside}
use Rattle.rp_geometry.specs.searches.ProofLine.{strict_line, out_line}
use Rattle.rp_cell.proofs.decide.refute_soon.Goals as goal

pub returns-in-Some-clause-decides : goal.returns-in-Some-clause-decides
returns-in-Some-clause-decides c =
    let found = c.refute_by_two.ensures in (
      of_some (λ terms. first_outside true c.args.cell.now ≡ Some terms) c.refute_by_two.result c.in-Some.terms c.in-Some.is found.first,
      of_some (λ terms. IsTrue (is_outside_certificate true c.args.cell.now terms)) c.refute_by_two.result c.in-Some.terms c.in-Some.is found.passes,
      of_some (λ _. IsEmpty (shape_of_cell c.args.cell.now)) c.refute_by_two.result c.in-Some.terms c.in-Some.is found.empty,
    )

pub returns-in-Some-clause-line : goal.returns-in-Some-clause-line
returns-in-Some-clause-line c = of_some (λ terms. out_line terms ≡ strict_line c.args.cell.now) c.refute_by_two.result c.in-Some.terms c.in-Some.is c.refute_by_two.ensures.line
