use Rattle.rp_access.proofs.Known.{levels_are_one_spec}
use Rattle.rp_access.proofs.laws.levels_are_one.Goals as goal

pub returns : goal.returns
returns c = levels_are_one_spec
