use Rattle.std.proofs.Common.{ap, ◌∙◌}
use Rattle.std.specs.Prelude.{option_map}
use Rattle.rp_geometry.specs.Geometry.{reduced_point}
use Rattle.rp_geometry.specs.searches.Vertex.{cramer_point, meeting_point}
use Rattle.rp_space.specs.PositivePoint.{positive_point}
use Rattle.rp_space.proofs.Level.{turned}
use Rattle.rp_space.proofs.Positive.{reduced_positive}
use Rattle.rp_space.proofs.meeting.meeting_of.Goals as goal

pub returns-then-is_level_with_upright-clause-in_lowest_terms : goal.returns-then-is_level_with_upright-clause-in_lowest_terms
unfolding meeting_point
returns-then-is_level_with_upright-clause-in_lowest_terms c =
    ap (option_map reduced_point) c.meeting_on_level.ensures.value ∙ reduced_positive (cramer_point c.args.f.now c.args.g.now c.args.h.now)

pub returns-then-is_level_with_upright-2-clause-value : goal.returns-then-is_level_with_upright-2-clause-value
returns-then-is_level_with_upright-2-clause-value c =
    c.meeting_on_level-then-is_level_with_upright-2.ensures.value ∙ ap positive_point (turned c.args.f.now c.args.g.now c.args.h.now)

pub returns-then-is_level_with_upright-2-clause-in_lowest_terms : goal.returns-then-is_level_with_upright-2-clause-in_lowest_terms
unfolding meeting_point
returns-then-is_level_with_upright-2-clause-in_lowest_terms c =
    ap (option_map reduced_point) (returns-then-is_level_with_upright-2-clause-value c) ∙ reduced_positive (cramer_point c.args.f.now c.args.g.now c.args.h.now)

pub returns-then-is_level_with_upright-3-clause-value : goal.returns-then-is_level_with_upright-3-clause-value
returns-then-is_level_with_upright-3-clause-value c =
    c.meeting_on_level-then-is_level_with_upright-3.ensures.value
    ∙ ap positive_point (turned c.args.g.now c.args.h.now c.args.f.now ∙ turned c.args.f.now c.args.g.now c.args.h.now)

pub returns-then-is_level_with_upright-3-clause-in_lowest_terms : goal.returns-then-is_level_with_upright-3-clause-in_lowest_terms
unfolding meeting_point
returns-then-is_level_with_upright-3-clause-in_lowest_terms c =
    ap (option_map reduced_point) (returns-then-is_level_with_upright-3-clause-value c) ∙ reduced_positive (cramer_point c.args.f.now c.args.g.now c.args.h.now)
