use Rattle.rp_chains.proofs.Down.{chain_is_found_spec}
use Rattle.rp_chains.proofs.chain_is_found.Goals as goal

pub returns : goal.returns
returns c = chain_is_found_spec
