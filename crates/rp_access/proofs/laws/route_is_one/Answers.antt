use Rattle.rp_access.proofs.Known.{route_is_one_spec}
use Rattle.rp_access.proofs.laws.route_is_one.Goals as goal

pub returns : goal.returns
returns c = route_is_one_spec
