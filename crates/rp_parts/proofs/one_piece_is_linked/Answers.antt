use Rattle.rp_parts.proofs.Joined.{one_piece_is_linked_spec}
use Rattle.rp_parts.proofs.one_piece_is_linked.Goals as goal

pub returns : goal.returns
returns c = one_piece_is_linked_spec
