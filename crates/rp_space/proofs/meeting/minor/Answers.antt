use Rattle.rp_algebra.proofs.Machine.{code, fits_by, is_by}
use Rattle.rp_space.proofs.meeting.minor.Goals as goal

pub overflow_sub-result : goal.overflow_sub-result
overflow_sub-result c = fits_by (search code depth 30 fits 100000) tt

pub returns : goal.returns
returns c = is_by (search code depth 30 fits 100000) tt
