use Rattle.rp_parts.proofs.Regions.{shape_is_region_spec}
use Rattle.rp_parts.proofs.shape_is_region.Goals as goal

pub returns : goal.returns
returns c = shape_is_region_spec
