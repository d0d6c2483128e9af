use Rattle.rp_language.proofs.ReadBounds.{read_heights_are_kept_spec}
use Rattle.rp_language.proofs.read_heights_are_kept.Goals as goal

pub returns : goal.returns
returns c = read_heights_are_kept_spec
