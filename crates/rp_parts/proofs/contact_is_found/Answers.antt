use Rattle.rp_parts.proofs.Pairs.{contact_is_found_spec}
use Rattle.rp_parts.proofs.contact_is_found.Goals as goal

pub returns : goal.returns
returns c = contact_is_found_spec
