use Rattle.rp_access.proofs.Computed.{chain_is_computed_spec}
use Rattle.rp_access.proofs.laws.chain_is_computed.Goals as goal

pub returns : goal.returns
returns c = chain_is_computed_spec
