use Rattle.rp_parts.proofs.Found.{contact_of_parts_is_found_spec}
use Rattle.rp_parts.proofs.contact_of_parts_is_found.Goals as goal

pub returns : goal.returns
returns c = contact_of_parts_is_found_spec
