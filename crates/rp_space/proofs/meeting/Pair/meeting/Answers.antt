use Rattle.std.proofs.Common.{ap, sym, ◌∙◌, to_z}
use Rattle.std.specs.Prelude.{option_map}
use mir.Syntax.{w128}
use Rattle.rp_algebra.proofs.Machine.{read_is}
use Rattle.rp_geometry.specs.Geometry.{point_of, reduced_point}
use Rattle.rp_geometry.specs.searches.Vertex.{cramer_point, meeting_point}
use Rattle.rp_space.specs.PositivePoint.{positive_point}
use Rattle.rp_space.proofs.Positive.{reduced_positive, none_at_zero}
use Rattle.rp_space.proofs.meeting.Pair.meeting.Goals as goal

pub returns-clause-value : goal.returns-clause-value
returns-clause-value c =
    let x = read_is w128 c.x.ensures.small tt ∙ c.x.ensures.value in
    let y = read_is w128 c.y.ensures.small tt ∙ c.y.ensures.value in
    let z = read_is w128 c.z.ensures.small tt ∙ c.z.ensures.value in
    let w = read_is w128 c.weight-weight.ensures.small tt ∙ c.weight-weight.ensures.value in
    c.positive.ensures ∙ (λ i. positive_point (point_of (x i) (y i) (z i) (w i)))

pub returns-clause-in_lowest_terms : goal.returns-clause-in_lowest_terms
unfolding meeting_point
returns-clause-in_lowest_terms c =
    ap (option_map reduced_point) (returns-clause-value c) ∙ reduced_positive (cramer_point c.args.self.now.first c.args.self.now.second c.args.h.now)

pub returns-then-weight-eq0-clause-value : goal.returns-then-weight-eq0-clause-value
returns-then-weight-eq0-clause-value c =
    let w = c.weight-weight.ensures in
    none_at_zero (cramer_point c.args.self.now.first c.args.self.now.second c.args.h.now)
    (sym w.value ∙ sym (read_is w128 w.small tt) ∙ ap (to_z w128) c.if-weight-eq0.true)

pub returns-then-weight-eq0-clause-point : goal.returns-then-weight-eq0-clause-point
returns-then-weight-eq0-clause-point c = tt

pub returns-then-weight-eq0-clause-in_lowest_terms : goal.returns-then-weight-eq0-clause-in_lowest_terms
unfolding meeting_point
returns-then-weight-eq0-clause-in_lowest_terms c =
    ap (option_map reduced_point) (returns-then-weight-eq0-clause-value c)
    ∙ reduced_positive (cramer_point c.args.self.now.first c.args.self.now.second c.args.h.now)
