use Rattle.rp_slice.proofs.Closure.{closure_is_on_the_left_spec}
use Rattle.rp_slice.proofs.closure_is_on_the_left.Goals as goal

pub returns : goal.returns
returns c = closure_is_on_the_left_spec
