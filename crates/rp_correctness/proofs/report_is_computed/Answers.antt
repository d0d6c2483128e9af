use Rattle.rp_correctness.proofs.Rows.{first_rows, meets_rule}
use Rattle.rp_correctness.proofs.report_is_computed.Goals as goal
use Rattle.rp_states.proofs.Computed.{report_is_computed_spec}

pub returns : goal.returns
returns c = report_is_computed_spec meets_rule first_rows
