use Rattle.rp_parts.proofs.Pieces.{pieces_are_one_spec}
use Rattle.rp_parts.proofs.pieces_are_one.Goals as goal

pub returns : goal.returns
returns c = pieces_are_one_spec
