use Rattle.rp_algebra.proofs.Machine.{code, fits_by}
use Rattle.rp_text.proofs.half_texts.place_of.Goals as goal

pub overflow_add-a-3 : goal.overflow_add-a-3
overflow_add-a-3 c = fits_by (search code depth 30 fits 100000) tt
