use Rattle.rp_correctness.proofs.Runs.{as_of_in_runs_spec}
use Rattle.rp_correctness.proofs.as_of_in_runs.Goals as goal

pub returns : goal.returns
returns c = as_of_in_runs_spec
