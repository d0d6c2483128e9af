use Rattle.rp_parts.proofs.Unions.{near_union_is_near_one_spec}
use Rattle.rp_parts.proofs.near_union_is_near_one.Goals as goal

pub returns : goal.returns
returns c = near_union_is_near_one_spec
