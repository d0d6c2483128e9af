-- The law over upgraded scripts, as a statement. It is proved by the function whose contract names it.
use Rattle.std.specs.Prelude.{◌≡◌, ℕ, suc, false, ◌↔◌, List, [], ◌∷◌, ◌++◌}
use Rattle.rp_language.specs.Grammar.{Version, two, Reading, blank, command, bad, reading, spelling}
use Rattle.rp_model.specs.states.State.{State, opening}
use Rattle.rp_reports.specs.Text.{Answer, answer_lines, text_of_lines}
use Rattle.rp_reports.specs.Report.{report_mark, script_version, script_body, blank_answer, IsAnswerTo, after_reading, IsReport}
use Rattle.rp_reports.specs.Upgrade.{upgraded_script}

-- the answer to a line with the given reading, as the upgraded script has it: a command is echoed in its spelling of version 2, and a bad line is answered like a blank one
abbrev pub upgraded_answer : Reading → Answer → Answer
upgraded_answer blank a = a
upgraded_answer (command c) a = record { number = a.number; echo = spelling two c; proofs = a.proofs; verdicts = a.verdicts }
upgraded_answer (bad f) a = blank_answer a.number

-- the report lines of some lines of a script, from a state on, with every answer as the upgraded script has it
abbrev pub IsUpgradedFrom : Version → State → ℕ → List (List ℕ) → List (List ℕ) → Type 0
IsUpgradedFrom v s n [] told = told ≡ []
IsUpgradedFrom v s n (line ∷ lines) told =
    (a : Answer) × (rest : List (List ℕ)) × IsAnswerTo s n line (reading v line) a × IsUpgradedFrom v (after_reading n s (reading v line)) (suc n) lines rest
    × (told ≡ answer_lines false (upgraded_answer (reading v line) a) ++ rest)

-- the report of a script with every answer as the upgraded script has it, after the mark of version 2
abbrev pub IsUpgradedReport : List ℕ → List (List ℕ) → Type 0
IsUpgradedReport bytes told = (rest : List (List ℕ)) × IsUpgradedFrom (script_version bytes) opening 1 (script_body bytes) rest × (told ≡ report_mark ∷ rest)

-- the report of an upgraded script is that of the script, without the answers of bad lines and with every command echoed in its spelling of version 2
abbrev pub UpgradeKeepsTheReport : Type 0
UpgradeKeepsTheReport = (bytes : List ℕ) (told : List (List ℕ)) → IsReport (text_of_lines (upgraded_script bytes)) told ↔ IsUpgradedReport bytes told
