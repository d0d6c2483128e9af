use Rattle.rp_correctness.proofs.Rows.{first_rows, meets_rule}
use Rattle.rp_correctness.proofs.brief_report_is_one.Goals as goal
use Rattle.rp_states.proofs.Computed.{brief_report_is_one_spec}

pub returns : goal.returns
returns c = brief_report_is_one_spec meets_rule first_rows
