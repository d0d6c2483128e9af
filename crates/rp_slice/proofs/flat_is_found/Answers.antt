use Rattle.rp_slice.proofs.FlatFound.{flat_is_found_spec}
use Rattle.rp_slice.proofs.flat_is_found.Goals as goal

pub returns : goal.returns
returns c = flat_is_found_spec
