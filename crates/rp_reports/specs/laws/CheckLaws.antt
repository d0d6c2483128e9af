-- The laws over the reader of reports, as statements. Each is proved by the function whose contract names it.
use Rattle.std.specs.Prelude.{◌≡◌, ℕ, suc, ◌≤◌, true, false, IsTrue, List, [], map, length, Option, Some, None}
use Rattle.std.specs.List.{flat_map, AllByRecursion}
use Rattle.rp_geometry.specs.sections.Trace.{IsHeight}
use Rattle.rp_language.specs.Expression.{Command, IsKeptExpression, expressions_of, heights_of}
use Rattle.rp_model.specs.states.State.{State, parts_only, sets_only, changed}
use Rattle.rp_geometry.specs.parts.Parts.{IsCheckedPart}
use Rattle.rp_model.specs.states.Sound.{IsSoundWith, IsLaterThan, AreAlike}
use Rattle.rp_model.specs.commands.Reply.{Reply}
use Rattle.rp_model.specs.commands.Row.{row}
use Rattle.rp_model.specs.commands.Rule.{change_of}
use Rattle.rp_semantics.specs.FormLaws.{IfDone}
use Rattle.rp_reports.specs.Text.{proof_text, verdict_text, text_of_lines}
use Rattle.rp_reports.specs.Report.{IsReport}
use Rattle.rp_reports.specs.Check.{Trail, line_tester, is_accepted, finding, wrong_at, IsFirstWrong}
use Rattle.rp_reports.specs.Output.{most_script_bytes, report_lines}
use Rattle.rp_reports.specs.TrueReport.{true_rule, is_accepted_change, ToldAnswer, told_lines, IsTrueReport}

-- ---- the truth of a followed row

-- The verdict lines of a reply are true of the sets, and there is a sound state after it. Its parts are those that the check stores, and its sets those that the command gives.
pub record TellsTruth (s : State) (n : ℕ) (c : Command) (r : Reply) : Type 0 where
  pub verdicts : true_rule (sets_only s) c r.verdicts
  pub next : State
  pub sound : IsSoundWith IsCheckedPart next
  pub later : IsLaterThan (suc n) next
  pub parts : parts_only next ≡ changed n (parts_only s) r.change
  pub sets : sets_only next ≡ (elim (is_accepted_change r.verdicts) [ true ↦ changed n (sets_only s) (change_of (sets_only s) c) | false ↦ sets_only s ])

-- a row followed on the lines of a report, from the parts of a sound state, tells the truth
abbrev pub FollowedRowTellsTruth : Type 0
FollowedRowTellsTruth = (s : State) → IsSoundWith IsCheckedPart s → (n : ℕ) → IsLaterThan n s → (c : Command) → AllByRecursion IsKeptExpression (expressions_of c) → AllByRecursion IsHeight (heights_of c) → (w : Trail) →
    IfDone (row line_tester (parts_only s) c w) (λ r. TellsTruth s n c r)

-- ---- whole reports

-- an accepted report is true
abbrev pub AcceptedIsTrue : Type 0
AcceptedIsTrue = (lines : List (List ℕ)) → IsTrue (is_accepted lines) → IsTrueReport lines

-- the bytes of an echo after its number; none if there is no text
abbrev pub bytes_told : Option (List ℕ) → List ℕ
bytes_told None = []
bytes_told (Some text) = text

-- two answers with equal lines: equal number, text, proof lines and verdict lines
pub record SameAnswerLines (a b : ToldAnswer) : Type 0 where
  pub number : a.number ≡ b.number
  pub text : bytes_told a.text ≡ bytes_told b.text
  pub proofs : map proof_text a.proofs ≡ map proof_text b.proofs
  pub verdicts : map verdict_text a.verdicts ≡ map verdict_text b.verdicts

-- the numbers of the answers are line numbers, at most 16777216
abbrev pub AreNumbered : List ToldAnswer → Type 0
AreNumbered told = AllByRecursion (λ a. a.number ≤ 16777216) told

-- report lines can be divided into answers in one way only
abbrev pub ReportsAreToldOnce : Type 0
ReportsAreToldOnce = (told other : List ToldAnswer) → AreNumbered told → AreNumbered other → flat_map told_lines told ≡ flat_map told_lines other → AreAlike SameAnswerLines told other

-- the report of a script is accepted
abbrev pub ReportIsAccepted : Type 0
ReportIsAccepted = (bytes : List ℕ) → length bytes ≤ most_script_bytes → (told : List (List ℕ)) → IsReport bytes told → IsTrue (is_accepted told)

-- the text of the report of a script, split into lines again, is accepted
abbrev pub WrittenReportIsAccepted : Type 0
WrittenReportIsAccepted = (bytes : List ℕ) → length bytes ≤ most_script_bytes → (told : List (List ℕ)) → IsReport bytes told → IsTrue (is_accepted (report_lines (text_of_lines told)))

-- the line that the check finds wrong is the first at which no accepted report continues
abbrev pub FindsFirstWrong : Type 0
FindsFirstWrong = (lines : List (List ℕ)) (k : ℕ) → finding lines ≡ wrong_at k → IsFirstWrong lines k
