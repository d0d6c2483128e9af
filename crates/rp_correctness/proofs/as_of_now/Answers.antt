use Rattle.rp_correctness.proofs.Runs.{as_of_now_spec}
use Rattle.rp_correctness.proofs.as_of_now.Goals as goal

pub returns : goal.returns
returns c = as_of_now_spec
