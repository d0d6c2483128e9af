use Rattle.rp_correctness.proofs.Accepted.{accepted_is_true_spec}
use Rattle.rp_correctness.proofs.accepted_is_true.Goals as goal

pub returns : goal.returns
returns c = accepted_is_true_spec
