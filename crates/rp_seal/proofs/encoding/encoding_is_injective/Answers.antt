use Rattle.rp_seal.proofs.ActBytes.{same_act}
use Rattle.rp_seal.proofs.encoding.encoding_is_injective.Goals as goal

pub returns : goal.returns
returns c = λ a b. same_act a b
