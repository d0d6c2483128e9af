use Rattle.std.proofs.Common.{◌∙◌, ◌-ℤ◌, ◌*ℤ◌}
use Rattle.rp_algebra.proofs.Machine.{code, fits_by, is_by}
use Rattle.rp_slice.proofs.Small.{height_within}
use Rattle.rp_cert.proofs.ring.above_height.Goals as goal

pub overflow_mul-result : goal.overflow_mul-result
overflow_mul-result c = let z = height_within c.args.z c.requires in fits_by (search code depth 30 fits 100000) tt

pub overflow_sub-result : goal.overflow_sub-result
overflow_sub-result c = let z = height_within c.args.z c.requires in fits_by (search code depth 30 fits 100000) tt

pub returns : goal.returns
returns c =
    let z = height_within c.args.z c.requires in
    is_by (search code depth 30 fits 100000) tt ∙ (λ i. (c.numbers-height.ensures.numbers i).z -ℤ c.args.z *ℤ (c.numbers-height.ensures.numbers i).w)
