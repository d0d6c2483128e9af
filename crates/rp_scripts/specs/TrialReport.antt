-- The counts of a script: over its one report, and over the last state of its run.
use Rattle.std.specs.Prelude.{◌≡◌, ℕ, Bool, List, [], ◌∷◌, length, take, Option, codes, count_by}
use Rattle.std.specs.Str.{bytes_eq}
use Rattle.rp_io.specs.Bytes.{Appends}
use Rattle.rp_model.specs.states.State.{live_lots}
use Rattle.rp_reports.specs.Made.{made_script, told_count}
use Rattle.rp_reports.specs.Output.{is_refused_line}
use Rattle.rp_reports.specs.Report.{script_version, script_body, IsReport}
use Rattle.rp_reports.specs.Text.{text_of_lines}
use Rattle.rp_reports.specs.laws.RunLaws.{state_of_run}

-- the line is a proof line: it begins with two spaces
abbrev pub is_proof_line : List ℕ → Bool
is_proof_line line = bytes_eq (codes "  ") (take (length (codes "  ")) line)

-- the four lines of counts of a script: the lines of its body, the lines of its report that are refusals, the lots that are live in the last state of its run,
-- and the proof lines of its report; the script has this report and no other
pub record TellsCounts (script : List ℕ) (lines : List (List ℕ)) : Type 0 where
  pub report : List (List ℕ)
  pub is_report : IsReport script report
  pub is_alone : (other : List (List ℕ)) → IsReport script other → other ≡ report
  pub counts : lines ≡ told_count (codes "lines") (length (script_body script)) ∷ told_count (codes "refused") (count_by is_refused_line report)
      ∷ told_count (codes "live") (length (live_lots (state_of_run (script_version script) (script_body script)).lots)) ∷ told_count (codes "proofs") (count_by is_proof_line report) ∷ []

-- the four lines of counts of the made script were appended to the output of a sink
pub record PutsTrial (n seed : ℕ) (old new : Option (List ℕ)) : Type 0 where
  pub lines : List (List ℕ)
  pub counts : TellsCounts (text_of_lines (made_script n seed)) lines
  pub text : Appends old new (text_of_lines lines)
