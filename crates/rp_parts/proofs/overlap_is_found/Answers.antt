use Rattle.rp_parts.proofs.Pairs.{overlap_is_found_spec}
use Rattle.rp_parts.proofs.overlap_is_found.Goals as goal

pub returns : goal.returns
returns c = overlap_is_found_spec
