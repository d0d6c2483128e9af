use Rattle.std.proofs.Common.{ap, ◌∙◌}
use Rattle.rp_geometry.specs.searches.Vertex.{first_weak_point}
use Rattle.rp_convex.proofs.Found.{weak_passes, weak_none}
use Rattle.rp_clip.specs.Clipped.{Clipped}
use Rattle.rp_clip.proofs.clip.Clip.first_weak.Goals as goal

pub returns-clause-passes : goal.returns-clause-passes
returns-clause-passes g c = weak_passes c.args.self.now.halves c.first_point.result c.table.ensures.clip.bounds (c.first_point.ensures ∙ ap (λ (s : Clipped). first_weak_point s.halves) c.self.view_is)

pub returns-clause-none : goal.returns-clause-none
returns-clause-none g c = weak_none c.args.self.now.halves c.first_point.result c.table.ensures.clip.bounds (c.first_point.ensures ∙ ap (λ (s : Clipped). first_weak_point s.halves) c.self.view_is)
