use Rattle.rp_parts.proofs.Unions.{contact_with_union_is_with_one_spec}
use Rattle.rp_parts.proofs.contact_with_union_is_with_one.Goals as goal

pub returns : goal.returns
returns c = contact_with_union_is_with_one_spec
