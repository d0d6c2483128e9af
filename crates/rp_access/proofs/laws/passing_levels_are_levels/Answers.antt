use Rattle.rp_access.proofs.Tested.{passing_levels_are_levels_spec}
use Rattle.rp_access.proofs.laws.passing_levels_are_levels.Goals as goal

pub returns : goal.returns
returns c = passing_levels_are_levels_spec
