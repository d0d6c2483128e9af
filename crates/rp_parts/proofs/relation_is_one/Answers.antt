use Rattle.rp_parts.proofs.Relations.{relation_is_one_spec}
use Rattle.rp_parts.proofs.relation_is_one.Goals as goal

pub returns : goal.returns
returns c = relation_is_one_spec
