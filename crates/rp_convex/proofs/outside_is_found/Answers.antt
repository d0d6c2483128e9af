use Rattle.rp_convex.proofs.OutsideFound.{outside_is_found_spec}
use Rattle.rp_convex.proofs.outside_is_found.Goals as goal

pub returns : goal.returns
returns c = outside_is_found_spec
