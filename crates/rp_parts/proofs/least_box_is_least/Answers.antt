use Rattle.rp_parts.proofs.LeastBox.{least_box_is_least_spec}
use Rattle.rp_parts.proofs.least_box_is_least.Goals as goal

pub returns : goal.returns
returns c = least_box_is_least_spec
