use Rattle.std.proofs.Common.{sym, ◌∙◌}
use Rattle.rp_geometry.specs.searches.Vertex.{meeting_point}
use Rattle.rp_vertex.specs.Wanted.{is_wanted}
use Rattle.rp_vertex.proofs.Lines.{none_wanted}
use Rattle.rp_vertex.proofs.search.vertex_on.Goals as goal

pub returns-then-passes : goal.returns-then-passes
returns-then-passes c =
    sym (none_wanted (is_wanted c.args.wanted) c.args.system.now (meeting_point c.args.pair.now.first c.args.pair.now.second c.args.h.now)
    (c.requires c.args.h.now (sym c.passes.ensures ∙ c.if-passes.true)))
