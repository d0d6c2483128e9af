use Rattle.rp_correctness.proofs.Rows.{first_rows}
use Rattle.rp_correctness.proofs.steps_keep_soundness.Goals as goal
use Rattle.rp_states.proofs.Steps.{steps_keep_soundness_spec}

pub returns : goal.returns
returns c = steps_keep_soundness_spec first_rows
