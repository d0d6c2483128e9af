use Rattle.rp_reports.specs.Check.{line_tester}
use Rattle.rp_geometry.specs.parts.Parts.{IsCheckedPart, IsPart}
use Rattle.rp_semantics.specs.Walk.{first_tester}
use Rattle.rp_row_soundness.proofs.EachRow.{new_parts_are_right}
use Rattle.rp_row_soundness.proofs.Right.{first_walks_are_right, line_walks_are_right}
use Rattle.rp_row_soundness.proofs.new_parts_are_right.Goals as goal

pub returns : goal.returns
returns c = record { of_first = new_parts_are_right IsPart first_tester first_walks_are_right; of_lines = new_parts_are_right IsCheckedPart line_tester line_walks_are_right }
