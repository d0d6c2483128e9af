use Rattle.rp_parts.proofs.Near.{near_cell_is_weak_spec}
use Rattle.rp_parts.proofs.near_cell_is_weak.Goals as goal

pub returns : goal.returns
returns c = near_cell_is_weak_spec
