use Rattle.rp_geometry.specs.laws.ChainLaws.{AreLinkedBelow}
use Rattle.rp_chains.proofs.One.{chain_is_one_by_spec}
use Rattle.rp_chains.proofs.chain_is_one.Goals as goal

pub returns : goal.returns
returns c links n = chain_is_one_by_spec (AreLinkedBelow links n)
