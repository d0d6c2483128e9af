use Rattle.rp_correctness.proofs.Rows.{first_rows, line_rows}
use Rattle.rp_correctness.proofs.rows_are_right.Goals as goal

pub returns : goal.returns
returns c = record { of_first = first_rows; of_lines = line_rows }
