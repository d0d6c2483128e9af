use Rattle.rp_seal.proofs.Sound as sound
use Rattle.rp_seal.proofs.laws.tree_hash_is_binding.Goals as goal

pub returns : goal.returns
returns c = sound.tree_hash_is_binding
