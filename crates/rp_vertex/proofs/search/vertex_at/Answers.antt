use Rattle.std.proofs.Common.{true, false, sym, ap, ◌∙◌}
use Rattle.std.specs.Prelude.{Some, None}
use Rattle.rp_geometry.specs.Geometry.{reduced_point}
use Rattle.rp_geometry.specs.searches.Vertex.{meeting_point}
use Rattle.rp_vertex.proofs.Tested.{vertex_is}
use Rattle.rp_vertex.proofs.search.vertex_at.Goals as goal

pub returns-then-not-passes : goal.returns-then-not-passes
returns-then-not-passes c =
    let m = c.in_ok-p.p in
    let found = c.in_ok-p.ensures in
    (λ i. elim ((sym c.if-not-passes.true ∙ c.passes.ensures) i) [ true ↦ Some (reduced_point m) | false ↦ None ])
    ∙ vertex_is c.args.wanted c.args.system.now m (meeting_point c.args.pair.now.first c.args.pair.now.second c.args.h.now) found.point found.in_lowest_terms

pub returns : goal.returns
returns c =
    let m = c.in_ok-p.p in
    let found = c.in_ok-p.ensures in
    ap Some c.point.ensures
    ∙ (λ i. elim ((sym c.if-not-passes.false ∙ c.passes.ensures) i) [ true ↦ Some (reduced_point m) | false ↦ None ])
    ∙ vertex_is c.args.wanted c.args.system.now m (meeting_point c.args.pair.now.first c.args.pair.now.second c.args.h.now) found.point found.in_lowest_terms
