use Rattle.rp_row_soundness.proofs.Right.{line_walks_are_right}
use Rattle.rp_row_soundness.proofs.walks_on_lines_are_right.Goals as goal

pub returns : goal.returns
returns c = line_walks_are_right
