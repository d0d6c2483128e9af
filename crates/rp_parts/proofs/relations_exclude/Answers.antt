use Rattle.rp_parts.proofs.Relations.{relations_exclude_spec}
use Rattle.rp_parts.proofs.relations_exclude.Goals as goal

pub returns : goal.returns
returns c = relations_exclude_spec
