use Rattle.rp_slice.proofs.RingFound.{ring_is_found_spec}
use Rattle.rp_slice.proofs.ring_is_found.Goals as goal

pub returns : goal.returns
returns c = ring_is_found_spec
