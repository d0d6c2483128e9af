use Rattle.rp_parts.proofs.Grouped.{groups_are_joined_spec}
use Rattle.rp_parts.proofs.groups_are_joined.Goals as goal

pub returns : goal.returns
returns c = groups_are_joined_spec
