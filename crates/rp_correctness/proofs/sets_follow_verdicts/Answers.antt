use Rattle.rp_correctness.proofs.Rows.{meets_rule}
use Rattle.rp_correctness.proofs.sets_follow_verdicts.Goals as goal
use Rattle.rp_states.proofs.Computed.{sets_follow_verdicts_spec}

pub returns : goal.returns
returns c = sets_follow_verdicts_spec meets_rule
