-- The walks of a tester that answers rightly are right: joins, differences, pair loops, relations, pieces and forms.
use Rattle.rp_geometry.specs.sets.Shape.{Part}
use Rattle.rp_semantics.specs.Walk.{Tester, first_tester}
use Rattle.rp_reports.specs.Check.{line_tester}
use Rattle.rp_geometry.specs.parts.Parts.{IsPart, IsCheckedPart}
use Rattle.rp_semantics.specs.FormLaws.{AnswersRightly}
use Rattle.rp_semantics.specs.FormLaws.{WalksAreRight}
use Rattle.rp_forms.proofs.First.{first_tester_is_right_spec}
use Rattle.rp_row_soundness.proofs.Lines.{line_tester_is_right_spec}
use Rattle.rp_forms.proofs.Join.{join_is_right_spec}
use Rattle.rp_forms.proofs.Difference.{difference_is_right_spec}
use Rattle.rp_forms.proofs.Common.{common_is_right_spec}
use Rattle.rp_forms.proofs.Touch.{touch_is_right_spec}
use Rattle.rp_forms.proofs.Relations.{relation_is_right_spec}
use Rattle.rp_forms.proofs.Pieces.{pieces_are_right_spec}
use Rattle.rp_forms.proofs.Forms.{form_is_right_spec}

-- the walks of a tester that answers rightly are right
pub walks_are_right : {W : Type 0} (P : Part → Type 0) (t : Tester W) → AnswersRightly P t → WalksAreRight P t
walks_are_right P t right = record {
  tests = right;
  joins = join_is_right_spec P t right;
  differences = difference_is_right_spec P t right;
  commons = common_is_right_spec P t right;
  touches = touch_is_right_spec P t right;
  relations = relation_is_right_spec P t right;
  pieces = pieces_are_right_spec P t right;
  forms = form_is_right_spec P t right;
}

-- those of the first certificates
pub first_walks_are_right : WalksAreRight IsPart first_tester
first_walks_are_right = walks_are_right IsPart first_tester first_tester_is_right_spec

-- those that follow the lines of a report
pub line_walks_are_right : WalksAreRight IsCheckedPart line_tester
line_walks_are_right = walks_are_right IsCheckedPart line_tester line_tester_is_right_spec
