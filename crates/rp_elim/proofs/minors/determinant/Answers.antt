use Rattle.std.proofs.Common.{◌∙◌, ◌+ℤ◌, ◌-ℤ◌, ◌*ℤ◌}
use Rattle.rp_algebra.proofs.Machine.{code, fits_by, is_by, within_by}
use Rattle.rp_elim.proofs.minors.determinant.Goals as goal

pub overflow_mul-result-2 : goal.overflow_mul-result-2
overflow_mul-result-2 c = fits_by (search code depth 30 fits 100000) tt

pub overflow_sub-result : goal.overflow_sub-result
overflow_sub-result c = fits_by (search code depth 30 fits 100000) tt

pub overflow_mul-result-3 : goal.overflow_mul-result-3
overflow_mul-result-3 c = fits_by (search code depth 30 fits 100000) tt

pub overflow_add-result : goal.overflow_add-result
overflow_add-result c = fits_by (search code depth 30 fits 100000) tt

pub returns-clause-value : goal.returns-clause-value
returns-clause-value c =
    is_by (search code depth 30 fits 100000) tt
    ∙ (λ i. c.along.ensures.value i *ℤ c.minor.ensures.value i -ℤ c.along-2.ensures.value i *ℤ c.minor-2.ensures.value i +ℤ c.along-3.ensures.value i *ℤ c.minor-3.ensures.value i)

pub returns-clause-small : goal.returns-clause-small
returns-clause-small c = within_by (search code depth 30 fits 100000) tt
