use Rattle.rp_chains.proofs.Levels.{levels_are_found_spec}
use Rattle.rp_chains.proofs.levels_are_found.Goals as goal

pub returns : goal.returns
returns c = levels_are_found_spec
