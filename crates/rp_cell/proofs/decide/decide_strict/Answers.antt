use Rattle.std.proofs.Common.{◌≡◌}
use Rattle.rp_algebra.proofs.Options.{of_some}
use Rattle.rp_geometry.specs.searches.ProofLine.{strict_line}
use Rattle.rp_cell.specs.Decisions.{line_of_strict, DecidesStrict}
use Rattle.rp_cell.proofs.decide.decide_strict.Goals as goal

pub returns-in-Some-clause-decides : goal.returns-in-Some-clause-decides
returns-in-Some-clause-decides c = of_some (λ found. DecidesStrict c.args.cell.now found) c.try_decide_strict.result c.in-Some.found c.in-Some.is c.try_decide_strict.ensures.decides

pub returns-in-Some-clause-line : goal.returns-in-Some-clause-line
returns-in-Some-clause-line c = of_some (λ found. line_of_strict found ≡ strict_line c.args.cell.now) c.try_decide_strict.result c.in-Some.found c.in-Some.is c.try_decide_strict.ensures.line
