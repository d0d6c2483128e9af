use Rattle.std.proofs.Common.{ap, ◌∙◌}
use Rattle.rp_geometry.specs.searches.Vertex.{first_inside}
use Rattle.rp_convex.proofs.Found.{inside_passes, inside_none}
use Rattle.rp_clip.specs.Clipped.{Clipped}
use Rattle.rp_clip.proofs.clip.Clip.first_inside.Goals as goal

pub returns-clause-passes : goal.returns-clause-passes
returns-clause-passes g c = inside_passes c.args.self.now.halves c.first_points.result c.table.ensures.clip.bounds (c.first_points.ensures ∙ ap (λ (s : Clipped). first_inside s.halves) c.self.view_is)

pub returns-clause-none : goal.returns-clause-none
returns-clause-none g c = inside_none c.args.self.now.halves c.first_points.result c.table.ensures.clip.bounds (c.first_points.ensures ∙ ap (λ (s : Clipped). first_inside s.halves) c.self.view_is)
