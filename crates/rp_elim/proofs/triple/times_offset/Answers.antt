use Rattle.std.proofs.Common.{◌∙◌, ◌*ℤ◌}
use Rattle.rp_algebra.proofs.Machine.{code, fits_by, is_by, within_by}
use Rattle.rp_elim.proofs.triple.times_offset.Goals as goal

pub overflow_mul-result : goal.overflow_mul-result
overflow_mul-result c = let m = c.requires in fits_by (search code depth 30 fits 100000) tt

pub returns-clause-value : goal.returns-clause-value
returns-clause-value c = let m = c.requires in is_by (search code depth 30 fits 100000) tt ∙ (λ i. c.args.times *ℤ (c.numbers-d.ensures.numbers i).d)

pub returns-clause-small : goal.returns-clause-small
returns-clause-small c = let m = c.requires in within_by (search code depth 30 fits 100000) tt
