use Rattle.std.proofs.Common.{◌≡◌, false, Some}
use Rattle.std.specs.Prelude.{IsTrue}
use Rattle.rp_algebra.proofs.Options.{of_some}
use Rattle.rp_geometry.specs.Geometry.{RationalPoint}
use Rattle.rp_geometry.specs.searches.Certificate.{is_outside_certificate}
use Rattle.rp_geometry.specs.searches.Elimination.{first_outside}
use Rattle.rp_geometry.specs.laws.CellLaws.{IsSolution}
use Rattle.rp_cell.proofs.Answered.{line_of_apart}
use Rattle.rp_cell.proofs.decide.refute_weak_soon.Goals as goal

first : (c : goal.In-Some) → first_outside false c.args.cell.now ≡ Some c.in-Some.terms
first c = of_some (λ terms. first_outside false c.args.cell.now ≡ Some terms) c.first_outside_of_two.result c.in-Some.terms c.in-Some.is c.first_outside_of_two.ensures.first

none : (c : goal.In-Some) → (p : RationalPoint) → ¬ IsSolution false c.args.cell.now p
none c = of_some (λ terms. (p : RationalPoint) → ¬ IsSolution false c.args.cell.now p) c.first_outside_of_two.result c.in-Some.terms c.in-Some.is c.first_outside_of_two.ensures.none

pub returns-in-Some-clause-decides : goal.returns-in-Some-clause-decides
returns-in-Some-clause-decides c =
    (first c, of_some (λ terms. IsTrue (is_outside_certificate false c.args.cell.now terms)) c.first_outside_of_two.result c.in-Some.terms c.in-Some.is c.first_outside_of_two.ensures.passes, none c)

pub returns-in-Some-clause-line : goal.returns-in-Some-clause-line
returns-in-Some-clause-line c = line_of_apart c.args.cell.now c.in-Some.terms c.keep_bounds.ensures (none c) (first c)
