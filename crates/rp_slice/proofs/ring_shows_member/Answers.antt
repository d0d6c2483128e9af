use Rattle.rp_slice.proofs.Center.{ring_shows_member_spec}
use Rattle.rp_slice.proofs.ring_shows_member.Goals as goal

pub returns : goal.returns
returns c = ring_shows_member_spec
