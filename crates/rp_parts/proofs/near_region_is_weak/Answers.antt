use Rattle.rp_parts.proofs.NearRegion.{near_region_is_weak_spec}
use Rattle.rp_parts.proofs.near_region_is_weak.Goals as goal

pub returns : goal.returns
returns c = near_region_is_weak_spec
