use Rattle.std.proofs.Common.{◌∙◌}
use Rattle.rp_algebra.proofs.Machine.{code, fits_by, is_by, within_by}
use Rattle.rp_geometry.specs.searches.Vertex.{det2}
use Rattle.rp_elim.proofs.minors.minor.Goals as goal

pub overflow_sub-result : goal.overflow_sub-result
overflow_sub-result c = fits_by (search code depth 30 fits 100000) tt

pub returns-clause-value : goal.returns-clause-value
returns-clause-value c =
    is_by (search code depth 30 fits 100000) tt
    ∙ (λ i. det2 (c.along.ensures.value i) (c.along-3.ensures.value i) (c.along-4.ensures.value i) (c.along-2.ensures.value i))

pub returns-clause-small : goal.returns-clause-small
returns-clause-small c = within_by (search code depth 30 fits 100000) tt
