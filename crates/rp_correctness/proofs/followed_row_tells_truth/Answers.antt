use Rattle.rp_correctness.proofs.Rows.{followed_row_tells_truth_spec}
use Rattle.rp_correctness.proofs.followed_row_tells_truth.Goals as goal

pub returns : goal.returns
returns c = followed_row_tells_truth_spec
