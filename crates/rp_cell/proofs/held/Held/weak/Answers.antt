use Rattle.std.proofs.Common.{◌≡◌, sym, ◌∙◌, ap}
use Rattle.rp_geometry.specs.searches.Vertex.{first_weak_point}
use Rattle.rp_cell.proofs.Answered.{line_at}
use Rattle.rp_cell.proofs.held.Held.weak.Goals as goal

-- the clip has the cell
same : (c : goal.In-Some) → c.self.inside.clip.halves ≡ c.args.self.now
same c = c.self.invariant.same c.if-not-self.false ∙ c.self.view_is

pub returns-in-Some-clause-line : goal.returns-in-Some-clause-line
returns-in-Some-clause-line c = line_at c.args.self.now c.in-Some.p (sym (c.first_weak.ensures.first ∙ ap first_weak_point (same c)) ∙ c.in-Some.is)
