use Rattle.std.proofs.Common.{◌≡◌, true, Some}
use Rattle.rp_algebra.proofs.Options.{of_some}
use Rattle.rp_geometry.specs.Geometry.{RationalPoint}
use Rattle.rp_geometry.specs.sets.Shape.{shape_of_cell}
use Rattle.rp_geometry.specs.sets.Sets.{IsEmpty}
use Rattle.rp_geometry.specs.searches.Elimination.{first_outside}
use Rattle.rp_geometry.specs.searches.ProofLine.{strict_line, out_line}
use Rattle.rp_geometry.specs.laws.CellLaws.{IsSolution}
use Rattle.rp_cell.proofs.Answered.{if_some, empty_without_solution, line_of_empty}
use Rattle.rp_cell.proofs.decide.refute_by_two.Goals as goal

pub returns-clause-empty : goal.returns-clause-empty
returns-clause-empty c =
    if_some (λ _. (p : RationalPoint) → ¬ IsSolution true c.args.cell.now p) (λ _. IsEmpty (shape_of_cell c.args.cell.now)) c.first_outside_of_two.result
    (λ _ _ none. empty_without_solution c.args.cell.now c.keep_bounds.ensures none) c.first_outside_of_two.ensures.none

pub returns-clause-line : goal.returns-clause-line
returns-clause-line c =
    if_some (λ terms. first_outside true c.args.cell.now ≡ Some terms) (λ terms. out_line terms ≡ strict_line c.args.cell.now) c.first_outside_of_two.result
    (λ terms is first. line_of_empty c.args.cell.now terms c.keep_bounds.ensures (of_some (λ _. IsEmpty (shape_of_cell c.args.cell.now)) c.first_outside_of_two.result terms is (returns-clause-empty c)) first) c.first_outside_of_two.ensures.first
