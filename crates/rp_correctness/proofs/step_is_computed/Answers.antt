use Rattle.rp_correctness.proofs.Rows.{meets_rule}
use Rattle.rp_correctness.proofs.step_is_computed.Goals as goal
use Rattle.rp_states.proofs.Computed.{step_is_computed_spec}

pub returns : goal.returns
returns c = step_is_computed_spec meets_rule
