use Rattle.rp_correctness.proofs.Rows.{first_rows, meets_rule}
use Rattle.rp_correctness.proofs.answers_depend_on_members.Goals as goal
use Rattle.rp_states.proofs.Parted.{answers_depend_on_members_spec}

pub returns : goal.returns
returns c = answers_depend_on_members_spec meets_rule first_rows
