use Rattle.rp_geometry.specs.laws.ChainLaws.{AreLinkedBelow}
use Rattle.rp_chains.proofs.One.{levels_are_one_by_spec}
use Rattle.rp_chains.proofs.levels_are_one.Goals as goal

pub returns : goal.returns
returns c links n = levels_are_one_by_spec (AreLinkedBelow links n)
