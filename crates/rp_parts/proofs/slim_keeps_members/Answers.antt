use Rattle.rp_parts.proofs.Slim.{slim_keeps_members_spec}
use Rattle.rp_parts.proofs.slim_keeps_members.Goals as goal

pub returns : goal.returns
returns c = slim_keeps_members_spec
