use Rattle.rp_parts.proofs.Parity.{crossings_are_even_spec}
use Rattle.rp_parts.proofs.crossings_are_even.Goals as goal

pub returns : goal.returns
returns c = crossings_are_even_spec
