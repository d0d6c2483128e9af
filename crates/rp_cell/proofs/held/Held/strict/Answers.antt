use Rattle.std.proofs.Common.{◌≡◌, sym, ◌∙◌, ap}
use Rattle.rp_geometry.specs.searches.Vertex.{first_inside}
use Rattle.rp_cell.proofs.Answered.{decided_inside, line_inside}
use Rattle.rp_cell.proofs.held.Held.strict.Goals as goal

-- the clip has the cell
same : (c : goal.In-Some) → c.self.inside.clip.halves ≡ c.args.self.now
same c = c.self.invariant.same c.if-not-self.false ∙ c.self.view_is

pub returns-in-Some-clause-decides : goal.returns-in-Some-clause-decides
returns-in-Some-clause-decides c = decided_inside c.args.self.now c.self.inside.clip.halves c.first_inside.result c.in-Some.points (same c) c.first_inside.ensures.first c.first_inside.ensures.passes c.in-Some.is

pub returns-in-Some-clause-line : goal.returns-in-Some-clause-line
returns-in-Some-clause-line c = line_inside c.args.self.now c.in-Some.points (sym (c.first_inside.ensures.first ∙ ap first_inside (same c)) ∙ c.in-Some.is)
