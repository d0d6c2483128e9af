use Rattle.rp_slice.proofs.Unique.{ring_is_the_only_one_spec}
use Rattle.rp_slice.proofs.ring_is_the_only_one.Goals as goal

pub returns : goal.returns
returns c = ring_is_the_only_one_spec
