use Rattle.rp_slice.proofs.RingFound.{slice_is_found_spec}
use Rattle.rp_slice.proofs.slice_is_found.Goals as goal

pub returns : goal.returns
returns c = slice_is_found_spec
