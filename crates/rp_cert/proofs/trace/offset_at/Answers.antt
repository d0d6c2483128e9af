use Rattle.std.proofs.Common.{◌∙◌}
use Rattle.rp_algebra.proofs.Machine.{code, fits_by, is_by, within_by}
use Rattle.rp_geometry.specs.sections.Trace.{offset_at}
use Rattle.rp_slice.proofs.Small.{height_within}
use Rattle.rp_cert.proofs.trace.offset_at.Goals as goal

pub overflow_mul-result : goal.overflow_mul-result
overflow_mul-result c =
    let z = height_within c.args.z c.requires in
    fits_by (search code depth 30 fits 100000) tt

pub overflow_add-result : goal.overflow_add-result
overflow_add-result c =
    let z = height_within c.args.z c.requires in
    fits_by (search code depth 30 fits 100000) tt

pub returns-clause-value : goal.returns-clause-value
returns-clause-value c =
    let z = height_within c.args.z c.requires in
    is_by (search code depth 30 fits 100000) tt ∙ (λ i. offset_at c.args.z (c.numbers-c.ensures.numbers i))

pub returns-clause-small : goal.returns-clause-small
returns-clause-small c =
    let z = height_within c.args.z c.requires in
    within_by (search code depth 30 fits 100000) tt
