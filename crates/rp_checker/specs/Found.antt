-- The result of the check of a report.
use Rattle.std.specs.Prelude.{ℕ, List}
use Rattle.rp_reports.specs.Check.{Finding, all_accepted, wrong_at, IsFirstWrong}
use Rattle.rp_reports.specs.TrueReport.{IsTrueReport}
use Rattle.rp_checker.specs.declared.report.Found.{Found}
use Rattle.rp_checker.specs.declared.report.Found.TheVariants.{Accepted, Wrong}

-- the finding of the model for a finding of the code
abbrev pub found_of : Found → Finding
found_of Accepted = all_accepted
found_of (Wrong n) = wrong_at n

-- an accepted report is true, and the wrong line is the first at which no accepted report continues
abbrev pub TellsRight : Found → List (List ℕ) → Type 0
TellsRight Accepted lines = IsTrueReport lines
TellsRight (Wrong n) lines = IsFirstWrong lines n
