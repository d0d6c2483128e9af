use Rattle.rp_slice.proofs.Walks.{member_has_ring_spec}
use Rattle.rp_slice.proofs.member_has_ring.Goals as goal

pub returns : goal.returns
returns c = member_has_ring_spec
