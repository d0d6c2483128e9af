-- The output of the program for the words of its command line.
use Rattle.std.specs.Prelude.{◌≡◌, ◌⊎◌, ℕ, Bool, true, false, ◌&&◌, nat_le, IsTrue, List, [], ◌∷◌, ◌++◌, length, take, Option, Some, None, codes, option_and_then}
use Rattle.std.specs.List.{list_any, flat_map, slice_split}
use Rattle.std.specs.Prelude.{◌==◌}
use Rattle.std.specs.Fmt.{decimal}
use Rattle.std.specs.Str.{bytes_eq}
use Rattle.rp_language.specs.Grammar.{Version, Reading, command, bad, reading, spelling, natural_spelled}
use Rattle.rp_reports.specs.Text.{line_end}
use Rattle.rp_reports.specs.Report.{script_mark, marked, script_version, script_body, last_line, IsReport, IsBriefReport}
use Rattle.rp_reports.specs.Check.{is_accepted, IsFirstWrong}
use Rattle.rp_reports.specs.Upgrade.{upgraded_script}
use Rattle.rp_reports.specs.Made.{made_script, trial_lines}

-- a task of the program
pub data Task : Type 0 where
  run_script : Task
  run_brief : Task
  check_report : Task
  spell_script : Task
  upgrade_script : Task
  make_script : ℕ → ℕ → Task
  try_script : ℕ → ℕ → Task

-- the number that a word spells, if it is within its bounds
abbrev pub number_between : ℕ → ℕ → List ℕ → Option ℕ
number_between least greatest word = option_and_then (λ n. elim (nat_le least n && nat_le n greatest) [ true ↦ Some n | false ↦ None ]) (natural_spelled word)

-- the task of two numbers, if both are there
abbrev pub with_numbers : (ℕ → ℕ → Task) → Option ℕ → Option ℕ → Option Task
with_numbers task (Some n) (Some seed) = Some (task n seed)
with_numbers task _ _ = None

-- the task of one word
abbrev pub task_of_one : List ℕ → Option Task
task_of_one word =
    elim (bytes_eq word (codes "run")) [
      | true ↦ Some run_script
      | false ↦ elim (bytes_eq word (codes "check")) [
        | true ↦ Some check_report
        | false ↦ elim (bytes_eq word (codes "script")) [
          | true ↦ Some spell_script
          | false ↦ elim (bytes_eq word (codes "upgrade")) [ true ↦ Some upgrade_script | false ↦ None ]
        ]
      ]
    ]

-- the task of two words
abbrev pub task_of_two : List ℕ → List ℕ → Option Task
task_of_two word next = elim (bytes_eq word (codes "run") && bytes_eq next (codes "brief")) [ true ↦ Some run_brief | false ↦ None ]

-- the task of a word and two numbers
abbrev pub task_of_three : List ℕ → Option ℕ → Option ℕ → Option Task
task_of_three word n seed =
    elim (bytes_eq word (codes "make")) [
      | true ↦ with_numbers make_script n seed
      | false ↦ elim (bytes_eq word (codes "trial")) [ true ↦ with_numbers try_script n seed | false ↦ None ]
    ]

-- the task of the words of a command line; none if they are no task
abbrev pub task_of : List (List ℕ) → Option Task
task_of (word ∷ []) = task_of_one word
task_of (word ∷ next ∷ []) = task_of_two word next
task_of (word ∷ first ∷ second ∷ []) = task_of_three word (number_between 1 1000 first) (number_between 0 18446744073709551615 second)
task_of _ = None

-- the most bytes of a script
abbrev pub most_script_bytes : ℕ
most_script_bytes = 16777216

-- the most bytes of a report that is checked
abbrev pub most_report_bytes : ℕ
most_report_bytes = 67108864

-- ---- every command in its one spelling

-- the spelling of a command in a version, as one line; no line for any other reading
abbrev pub spelled_lines : Version → Reading → List (List ℕ)
spelled_lines v (command c) = spelling v c ∷ []
spelled_lines v _ = []

-- all commands of a script in the spelling of its version, after its mark
abbrev pub spelled_script : List ℕ → List (List ℕ)
spelled_script bytes = let v = script_version bytes in marked script_mark v (flat_map (λ line. spelled_lines v (reading v line)) (script_body bytes))

-- the line is bad: neither a command nor blank
abbrev pub is_bad_reading : Reading → Bool
is_bad_reading (bad f) = true
is_bad_reading _ = false

-- some line of the body of a script is bad
abbrev pub has_bad_line : List ℕ → Bool
has_bad_line bytes = list_any (λ line. is_bad_reading (reading (script_version bytes) line)) (script_body bytes)

-- ---- the lines of a report: no carriage return is removed

-- the lines of the pieces between line ends, unchanged; the piece after the last line end is a line unless it is empty
abbrev pub whole_lines : List (List ℕ) → List (List ℕ)
whole_lines [] = []
whole_lines (piece ∷ []) = last_line piece
whole_lines (piece ∷ next ∷ pieces) = piece ∷ whole_lines (next ∷ pieces)

-- the lines of a report
unfoldable pub report_lines : List ℕ → List (List ℕ)
report_lines bytes = whole_lines (slice_split (λ b. b == line_end) bytes)

-- the output of the check of a report: accepted, or the number of the first wrong line
abbrev pub IsFound : List (List ℕ) → List (List ℕ) → Type 0
IsFound lines told = (IsTrue (is_accepted lines) × (told ≡ codes "accepted" ∷ [])) ⊎ ((k : ℕ) × IsFirstWrong lines k × (told ≡ (codes "wrong " ++ decimal k) ∷ []))

-- ---- outputs

-- the lines are the whole output of a task on the input
abbrev pub IsOutput : Task → List ℕ → List (List ℕ) → Type 0
IsOutput run_script bytes lines = IsReport bytes lines
IsOutput run_brief bytes lines = IsBriefReport bytes lines
IsOutput check_report bytes lines = IsFound (report_lines bytes) lines
IsOutput spell_script bytes lines = lines ≡ spelled_script bytes
IsOutput upgrade_script bytes lines = lines ≡ upgraded_script bytes
IsOutput (make_script n seed) bytes lines = lines ≡ made_script n seed
IsOutput (try_script n seed) bytes lines = lines ≡ trial_lines n seed

-- the line begins with '= refused'
abbrev pub is_refused_line : List ℕ → Bool
is_refused_line line = bytes_eq (codes "= refused") (take (length (codes "= refused")) line)

-- something is refused: a line of the report is a refusal, the checked report is not accepted, or a line of the spelled or upgraded script is bad
abbrev pub IsRefused : Task → List ℕ → List (List ℕ) → Type 0
IsRefused run_script bytes lines = IsTrue (list_any is_refused_line lines)
IsRefused run_brief bytes lines = IsTrue (list_any is_refused_line lines)
IsRefused check_report bytes lines = is_accepted (report_lines bytes) ≡ false
IsRefused spell_script bytes lines = IsTrue (has_bad_line bytes)
IsRefused upgrade_script bytes lines = IsTrue (has_bad_line bytes)
IsRefused (make_script n seed) bytes lines = ⊥
IsRefused (try_script n seed) bytes lines = ⊥
