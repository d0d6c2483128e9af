use Rattle.rp_parts.proofs.Tangential.{tangential_part_touches_rest_spec}
use Rattle.rp_parts.proofs.tangential_part_touches_rest.Goals as goal

pub returns : goal.returns
returns c = tangential_part_touches_rest_spec
