use Rattle.std.proofs.Common.{◌∙◌}
use Rattle.rp_algebra.proofs.Machine.{code, fits_by, is_by, within_by}
use Rattle.rp_geometry.specs.Geometry.{half_space_of}
use Rattle.rp_geometry.specs.searches.Vertex.{cramer_point}
use Rattle.rp_space.proofs.Cramer.{weight_is}
use Rattle.rp_space.proofs.meeting.Pair.weight.Goals as goal

pub overflow_mul-result : goal.overflow_mul-result
overflow_mul-result c = fits_by (search code depth 30 fits 100000) tt

pub overflow_mul-result-2 : goal.overflow_mul-result-2
overflow_mul-result-2 c = fits_by (search code depth 30 fits 100000) tt

pub overflow_sub-result : goal.overflow_sub-result
overflow_sub-result c = fits_by (search code depth 30 fits 100000) tt

pub overflow_mul-result-3 : goal.overflow_mul-result-3
overflow_mul-result-3 c = fits_by (search code depth 30 fits 100000) tt

pub overflow_add-result : goal.overflow_add-result
overflow_add-result c = fits_by (search code depth 30 fits 100000) tt

pub returns-clause-value : goal.returns-clause-value
returns-clause-value c =
    let p = c.self.inside in
    let m = c.self.invariant in
    let n = c.numbers-a.result in
    is_by (search code depth 30 fits 100000) tt ∙ weight_is p.first p.second (half_space_of n.0 n.1 n.2 n.3) p.bc p.ac p.ab m.bc m.ac m.ab
    ∙ (λ i. (cramer_point (c.self.view_is i).first (c.self.view_is i).second (c.numbers-a.ensures.numbers i)).w)

pub returns-clause-small : goal.returns-clause-small
returns-clause-small c = within_by (search code depth 30 fits 100000) tt
