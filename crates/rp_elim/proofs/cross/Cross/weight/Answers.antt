use Rattle.std.proofs.Common.{◌∙◌, ◌+ℤ◌, ◌-ℤ◌, ◌*ℤ◌}
use Rattle.rp_algebra.proofs.Machine.{code, fits_by, is_by, within_by}
use Rattle.rp_geometry.specs.Geometry.{half_space_of}
use Rattle.rp_geometry.specs.searches.Vertex.{meeting_weight}
use Rattle.rp_elim.proofs.Mixed.{weight_along_third}
use Rattle.rp_elim.proofs.cross.Cross.weight.Goals as goal

pub overflow_mul-result : goal.overflow_mul-result
overflow_mul-result c = fits_by (search code depth 30 fits 100000) tt

pub overflow_mul-result-2 : goal.overflow_mul-result-2
overflow_mul-result-2 c = fits_by (search code depth 30 fits 100000) tt

pub overflow_sub-result : goal.overflow_sub-result
overflow_sub-result c = fits_by (search code depth 30 fits 100000) tt

pub overflow_mul-result-3 : goal.overflow_mul-result-3
overflow_mul-result-3 c = fits_by (search code depth 30 fits 100000) tt

pub overflow_add-result : goal.overflow_add-result
overflow_add-result c = fits_by (search code depth 30 fits 100000) tt

pub returns-clause-value : goal.returns-clause-value
returns-clause-value c =
    let p = c.self.inside in
    let m = c.self.invariant in
    let n = c.numbers-a.result in
    is_by (search code depth 30 fits 100000) tt ∙ (λ i. n.0 *ℤ m.bc i -ℤ n.1 *ℤ m.ac i +ℤ n.2 *ℤ m.ab i)
    ∙ weight_along_third p.first.now p.second.now (half_space_of n.0 n.1 n.2 n.3)
    ∙ (λ i. meeting_weight (c.self.view_is i).first (c.self.view_is i).second (c.numbers-a.ensures.numbers i))

pub returns-clause-small : goal.returns-clause-small
returns-clause-small c = within_by (search code depth 30 fits 100000) tt
