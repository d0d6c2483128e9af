use Rattle.rp_convex.proofs.Least.{no_first_where_none_passes_spec}
use Rattle.rp_convex.proofs.no_first_where_none_passes.Goals as goal

pub returns : goal.returns
returns c = no_first_where_none_passes_spec
