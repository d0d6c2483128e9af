use Rattle.std.proofs.Common.{ℤ, pos, ◌-ℤ◌, ◌*ℤ◌, ap, ◌∙◌, to_z, of_z}
use mir.Syntax.{w64, w128}
use Rattle.rp_algebra.proofs.Machine.{code, fits_by, is_by, within_by}
use Rattle.rp_geometry.specs.searches.Vertex.{cramer_point}
use Rattle.rp_space.specs.PositivePoint.{positive_point}
use Rattle.rp_space.proofs.Level.{weight_of_equal, point_of_equal, point_by, zero_by, not_zero}
use Rattle.rp_space.proofs.Positive.{none_at_zero}
use Rattle.rp_space.proofs.meeting.meeting_on_level.Goals as goal

-- a number as 128 bits hold it
abbrev wide : ℤ → ℤ
wide v = to_z w128 (of_z w128 v)

-- a number as 64 bits hold it
abbrev narrow : ℤ → ℤ
narrow v = to_z w64 (of_z w64 v)

pub overflow_mul-weight : goal.overflow_mul-weight
overflow_mul-weight c = fits_by (search code depth 30 fits 100000) tt

pub returns-then-weight-eq0-clause-value : goal.returns-then-weight-eq0-clause-value
returns-then-weight-eq0-clause-value c =
    none_at_zero (cramer_point c.args.f.now c.args.g.now c.args.h.now)
    (zero_by (ap (to_z w128) c.if-weight-eq0.true)
    (is_by (search code depth 30 fits 100000) tt ∙ weight_of_equal c.numbers-fa.ensures.numbers c.numbers-ga.ensures.numbers c.numbers-c.ensures.numbers c.requires))

pub overflow_mul-x : goal.overflow_mul-x
overflow_mul-x c = fits_by (search code depth 30 fits 100000) tt

pub overflow_mul-y : goal.overflow_mul-y
overflow_mul-y c = fits_by (search code depth 30 fits 100000) tt

pub overflow_mul-z : goal.overflow_mul-z
overflow_mul-z c = fits_by (search code depth 30 fits 100000) tt

pub overflow_sub-z : goal.overflow_sub-z
overflow_sub-z c = fits_by (search code depth 30 fits 100000) tt

pub positive-requires-clause-x_small : goal.positive-requires-clause-x_small
positive-requires-clause-x_small c = within_by (search code depth 30 fits 100000) tt

pub positive-requires-clause-y_small : goal.positive-requires-clause-y_small
positive-requires-clause-y_small c = within_by (search code depth 30 fits 100000) tt

pub positive-requires-clause-z_small : goal.positive-requires-clause-z_small
positive-requires-clause-z_small c = within_by (search code depth 30 fits 100000) tt

pub positive-requires-clause-w_small : goal.positive-requires-clause-w_small
positive-requires-clause-w_small c = within_by (search code depth 30 fits 100000) tt

pub positive-requires-clause-nonzero : goal.positive-requires-clause-nonzero
positive-requires-clause-nonzero c = not_zero (wide (narrow c.numbers-c.result.2) *ℤ wide c.minor-ab.result) c.if-weight-eq0.false (fits_by (search code depth 30 fits 100000) tt)

pub returns-clause-value : goal.returns-clause-value
returns-clause-value c =
    point_by (wide (wide (narrow c.numbers-c.result.2) *ℤ wide c.minor.result)) (wide (wide (narrow c.numbers-c.result.2) *ℤ wide c.minor-2.result))
    (wide (pos 0 -ℤ wide (wide (narrow c.numbers-c.result.3) *ℤ wide c.minor-ab.result))) (wide (wide (narrow c.numbers-c.result.2) *ℤ wide c.minor-ab.result)) c.positive.ensures
    (is_by (search code depth 30 fits 100000) tt) (is_by (search code depth 30 fits 100000) tt) (is_by (search code depth 30 fits 100000) tt) (is_by (search code depth 30 fits 100000) tt)
    ∙ ap positive_point (point_of_equal c.numbers-fa.ensures.numbers c.numbers-ga.ensures.numbers c.numbers-c.ensures.numbers c.requires)
