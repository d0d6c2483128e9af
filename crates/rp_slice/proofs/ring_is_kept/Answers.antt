use Rattle.rp_slice.proofs.Sizes.{ring_is_kept_spec}
use Rattle.rp_slice.proofs.ring_is_kept.Goals as goal

pub returns : goal.returns
returns c = ring_is_kept_spec
