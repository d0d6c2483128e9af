use Rattle.rp_row_soundness.proofs.Lines.{line_tester_is_right_spec}
use Rattle.rp_row_soundness.proofs.line_tester_is_right.Goals as goal

pub returns : goal.returns
returns c = line_tester_is_right_spec
