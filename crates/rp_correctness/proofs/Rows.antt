-- The rows of the program and of the check are right.
use Rattle.rp_parts.proofs.Relations.{relations_exclude_spec}
use Rattle.rp_reports.specs.Check.{line_tester}
use Rattle.rp_reports.specs.laws.CheckLaws.{FollowedRowTellsTruth}
use Rattle.rp_reports.specs.laws.RowLaws.{RowIsRight, RowMeetsRule}
use Rattle.rp_geometry.specs.parts.Parts.{IsCheckedPart, IsPart}
use Rattle.rp_geometry.proofs.Kept.{part_is_checked}
use Rattle.rp_semantics.specs.Walk.{first_tester}
use Rattle.rp_parts.proofs.Pieces.{pieces_are_one_spec}
use Rattle.rp_states.proofs.Steps.{row_is_right}
use Rattle.rp_states.proofs.Truth.{row_tells_truth}
use Rattle.rp_row_soundness.proofs.EachRow.{new_parts_are_right, verdicts_meet_rule}
use Rattle.rp_row_soundness.proofs.TrueRows.{verdicts_are_true}
use Rattle.rp_row_soundness.proofs.Right.{first_walks_are_right, line_walks_are_right}
use Rattle.rp_row_soundness.proofs.Verdicts.{row_meets_rule}

-- with the first certificates
pub first_rows : RowIsRight IsPart first_tester
first_rows = row_is_right IsPart part_is_checked first_tester (verdicts_meet_rule IsPart first_tester first_walks_are_right) (new_parts_are_right IsPart first_tester first_walks_are_right)

-- on the lines of a report
pub line_rows : RowIsRight IsCheckedPart line_tester
line_rows = row_is_right IsCheckedPart (λ q h. h) line_tester (verdicts_meet_rule IsCheckedPart line_tester line_walks_are_right) (new_parts_are_right IsCheckedPart line_tester line_walks_are_right)

-- the verdict of the row is the one that the rule of sets wants, and the only one
pub meets_rule : RowMeetsRule
meets_rule = row_meets_rule first_walks_are_right relations_exclude_spec pieces_are_one_spec

-- a row that is followed on the lines of a report tells the truth
pub followed_row_tells_truth_spec : FollowedRowTellsTruth
followed_row_tells_truth_spec s sound n late c kept heights w = row_tells_truth line_tester line_rows (verdicts_are_true IsCheckedPart line_tester line_walks_are_right) s sound n late c kept heights w
