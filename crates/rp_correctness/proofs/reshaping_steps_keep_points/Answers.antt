use Rattle.rp_correctness.proofs.Rows.{meets_rule}
use Rattle.rp_correctness.proofs.reshaping_steps_keep_points.Goals as goal
use Rattle.rp_states.proofs.Reshaped.{reshaping_steps_keep_points_spec}

pub returns : goal.returns
returns c = reshaping_steps_keep_points_spec meets_rule
