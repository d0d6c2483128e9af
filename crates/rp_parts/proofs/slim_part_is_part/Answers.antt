use Rattle.rp_parts.proofs.Slim.{slim_part_is_part_spec}
use Rattle.rp_parts.proofs.slim_part_is_part.Goals as goal

pub returns : goal.returns
returns c = slim_part_is_part_spec
