use Rattle.rp_slice.proofs.FlatFirst.{first_flat_is_first_spec}
use Rattle.rp_slice.proofs.first_flat_is_first.Goals as goal

pub returns : goal.returns
returns c = first_flat_is_first_spec
