use Rattle.rp_reports.specs.Check.{line_tester}
use Rattle.rp_geometry.specs.parts.Parts.{IsCheckedPart, IsPart}
use Rattle.rp_semantics.specs.Walk.{first_tester}
use Rattle.rp_row_soundness.proofs.EachRow.{verdicts_meet_rule}
use Rattle.rp_row_soundness.proofs.Right.{first_walks_are_right, line_walks_are_right}
use Rattle.rp_row_soundness.proofs.verdicts_meet_rule.Goals as goal

pub returns : goal.returns
returns c = record { of_first = verdicts_meet_rule IsPart first_tester first_walks_are_right; of_lines = verdicts_meet_rule IsCheckedPart line_tester line_walks_are_right }
