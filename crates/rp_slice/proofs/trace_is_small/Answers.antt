use Rattle.rp_slice.proofs.Small.{trace_is_small_spec}
use Rattle.rp_slice.proofs.trace_is_small.Goals as goal

pub returns : goal.returns
returns c = trace_is_small_spec
