use Rattle.std.proofs.Common.{◌∙◌}
use Rattle.rp_geometry.specs.Geometry.{point_of, side_value}
use Rattle.rp_algebra.proofs.Machine.{code, fits_by, is_by}
use Rattle.rp_space.proofs.Level.{level_side, upright_side}
use Rattle.rp_space.proofs.half.Half.side_at.Goals as goal

pub overflow_add-result : goal.overflow_add-result
overflow_add-result c = fits_by (search code depth 30 fits 100000) tt

pub overflow_mul-result-then-is_upright : goal.overflow_mul-result-then-is_upright
overflow_mul-result-then-is_upright c = fits_by (search code depth 30 fits 100000) tt

pub overflow_mul-result-then-is_upright-2 : goal.overflow_mul-result-then-is_upright-2
overflow_mul-result-then-is_upright-2 c = fits_by (search code depth 30 fits 100000) tt

pub overflow_add-result-then-is_upright : goal.overflow_add-result-then-is_upright
overflow_add-result-then-is_upright c = fits_by (search code depth 30 fits 100000) tt

pub overflow_add-result-then-is_upright-2 : goal.overflow_add-result-then-is_upright-2
overflow_add-result-then-is_upright-2 c = fits_by (search code depth 30 fits 100000) tt

pub overflow_mul-result-2 : goal.overflow_mul-result-2
overflow_mul-result-2 c = fits_by (search code depth 30 fits 100000) tt

pub overflow_mul-result-3 : goal.overflow_mul-result-3
overflow_mul-result-3 c = fits_by (search code depth 30 fits 100000) tt

pub overflow_add-result-2 : goal.overflow_add-result-2
overflow_add-result-2 c = fits_by (search code depth 30 fits 100000) tt

pub overflow_mul-result-4 : goal.overflow_mul-result-4
overflow_mul-result-4 c = fits_by (search code depth 30 fits 100000) tt

pub overflow_add-result-3 : goal.overflow_add-result-3
overflow_add-result-3 c = fits_by (search code depth 30 fits 100000) tt

pub overflow_add-result-4 : goal.overflow_add-result-4
overflow_add-result-4 c = fits_by (search code depth 30 fits 100000) tt

pub returns-then-is_level : goal.returns-then-is_level
returns-then-is_level c =
    is_by (search code depth 30 fits 100000) tt ∙ level_side c.self.view_is (point_of c.args.x c.args.y c.args.z c.args.w) (c.is_level.ensures c.if-is_level.true)

pub returns-then-is_upright : goal.returns-then-is_upright
returns-then-is_upright c =
    is_by (search code depth 30 fits 100000) tt ∙ upright_side c.self.view_is (point_of c.args.x c.args.y c.args.z c.args.w) (c.is_upright.ensures c.if-is_upright.true)

pub returns : goal.returns
returns c = is_by (search code depth 30 fits 100000) tt ∙ (λ i. side_value (c.self.view_is i) (point_of c.args.x c.args.y c.args.z c.args.w))
