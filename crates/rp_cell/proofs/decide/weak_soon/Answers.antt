use Rattle.std.proofs.Common.{◌≡◌, Some}
use Rattle.rp_algebra.proofs.Options.{of_some}
use Rattle.rp_geometry.specs.searches.Vertex.{first_weak_point}
use Rattle.rp_cell.proofs.Answered.{line_at}
use Rattle.rp_cell.proofs.decide.weak_soon.Goals as goal

first : (c : goal.In-Some) → first_weak_point c.args.cell.now ≡ Some c.in-Some.p
first c = of_some (λ p. first_weak_point c.args.cell.now ≡ Some p) c.point_soon.result c.in-Some.p c.in-Some.is c.point_soon.ensures.first

pub returns-in-Some-clause-line : goal.returns-in-Some-clause-line
returns-in-Some-clause-line c = line_at c.args.cell.now c.in-Some.p (first c)
