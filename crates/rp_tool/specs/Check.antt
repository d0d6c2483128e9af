-- The output of the check of a report, and what it says of the report.
use Rattle.std.specs.Prelude.{◌≡◌, ℕ, ◌≤◌, Bool, true, false, List, ◌++◌, length, codes}
use Rattle.std.specs.Fmt.{decimal}
use Rattle.rp_reports.specs.Text.{text_of_lines}
use Rattle.rp_reports.specs.Report.{IsReport}
use Rattle.rp_reports.specs.TrueReport.{IsTrueReport}
use Rattle.rp_reports.specs.Output.{most_script_bytes, report_lines}
use Rattle.rp_checker.specs.declared.report.Found.{Found}
use Rattle.rp_checker.specs.declared.report.Found.TheVariants.{Accepted, Wrong}

-- the output line of a finding
abbrev pub found_line : Found → List ℕ
found_line Accepted = codes "accepted"
found_line (Wrong n) = codes "wrong " ++ decimal n

-- the finding refuses the report
abbrev pub is_wrong : Found → Bool
is_wrong Accepted = false
is_wrong (Wrong n) = true

-- the bytes are those of the report of some script
pub record IsWrittenReport (bytes : List ℕ) : Type 0 where
  pub script : List ℕ
  pub told : List (List ℕ)
  pub short : length script ≤ most_script_bytes
  pub report : IsReport script told
  pub text : bytes ≡ text_of_lines told

-- a report that is not refused is true of the sets of its echoed commands, and a report written for a script is not refused
pub record JudgesReport (report : List ℕ) (refused : Bool) : Type 0 where
  pub is_true : refused ≡ false → IsTrueReport (report_lines report)
  pub accepts : IsWrittenReport report → refused ≡ false
