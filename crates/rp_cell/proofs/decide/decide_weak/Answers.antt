use Rattle.std.proofs.Common.{◌≡◌}
use Rattle.rp_algebra.proofs.Options.{of_some}
use Rattle.rp_geometry.specs.searches.ProofLine.{weak_line}
use Rattle.rp_cell.specs.Decisions.{line_of_weak, DecidesWeak}
use Rattle.rp_cell.proofs.decide.decide_weak.Goals as goal

pub returns-in-Some-clause-decides : goal.returns-in-Some-clause-decides
returns-in-Some-clause-decides c = of_some (λ found. DecidesWeak c.args.cell.now found) c.weak_soon.result c.in-Some.found c.in-Some.is c.weak_soon.ensures.decides

pub returns-in-Some-clause-line : goal.returns-in-Some-clause-line
returns-in-Some-clause-line c = of_some (λ found. line_of_weak found ≡ weak_line c.args.cell.now) c.weak_soon.result c.in-Some.found c.in-Some.is c.weak_soon.ensures.line
