use Rattle.rp_parts.proofs.Pieces.{pieces_are_groups_spec}
use Rattle.rp_parts.proofs.pieces_are_groups.Goals as goal

pub returns : goal.returns
returns c = pieces_are_groups_spec
