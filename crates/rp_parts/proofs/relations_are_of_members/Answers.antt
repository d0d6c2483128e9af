use Rattle.rp_parts.proofs.Relations.{relations_are_of_members_spec}
use Rattle.rp_parts.proofs.relations_are_of_members.Goals as goal

pub returns : goal.returns
returns c = relations_are_of_members_spec
