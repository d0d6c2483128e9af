use Rattle.rp_row_soundness.proofs.Limits.{limit_comes_after_refusals}
use Rattle.rp_row_soundness.proofs.Right.{first_walks_are_right}
use Rattle.rp_row_soundness.proofs.limit_comes_after_refusals.Goals as goal

pub returns : goal.returns
returns c = limit_comes_after_refusals first_walks_are_right
