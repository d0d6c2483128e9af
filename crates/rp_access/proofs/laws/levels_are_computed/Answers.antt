use Rattle.rp_access.proofs.Computed.{levels_are_computed_spec}
use Rattle.rp_access.proofs.laws.levels_are_computed.Goals as goal

pub returns : goal.returns
returns c = levels_are_computed_spec
