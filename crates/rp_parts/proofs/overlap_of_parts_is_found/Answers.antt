use Rattle.rp_parts.proofs.Found.{overlap_of_parts_is_found_spec}
use Rattle.rp_parts.proofs.overlap_of_parts_is_found.Goals as goal

pub returns : goal.returns
returns c = overlap_of_parts_is_found_spec
