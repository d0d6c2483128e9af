use Rattle.rp_slice.proofs.FlatFound.{member_or_flat_spec}
use Rattle.rp_slice.proofs.member_or_flat.Goals as goal

pub returns : goal.returns
returns c = member_or_flat_spec
