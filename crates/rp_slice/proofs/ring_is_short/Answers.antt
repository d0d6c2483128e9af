use Rattle.rp_slice.proofs.Sizes.{ring_is_short_spec}
use Rattle.rp_slice.proofs.ring_is_short.Goals as goal

pub returns : goal.returns
returns c = ring_is_short_spec
