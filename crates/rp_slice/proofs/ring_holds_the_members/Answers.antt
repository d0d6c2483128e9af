use Rattle.rp_slice.proofs.Holding.{ring_holds_the_members_spec}
use Rattle.rp_slice.proofs.ring_holds_the_members.Goals as goal

pub returns : goal.returns
returns c = ring_holds_the_members_spec
