use Rattle.rp_convex.proofs.First.{first_outside_is_first_spec}
use Rattle.rp_convex.proofs.first_outside_is_first.Goals as goal

pub returns : goal.returns
returns c = first_outside_is_first_spec
