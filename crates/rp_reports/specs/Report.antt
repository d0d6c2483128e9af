-- The report of a script: the answers of a machine whose regions are sets of points, line by line.
use Rattle.std.specs.Prelude.{◌≡◌, ℕ, suc, ◌-◌, Bool, true, false, ◌==◌, List, [], ◌∷◌, ◌++◌, length, take, drop, codes, slice_index}
use Rattle.std.specs.List.{slice_split}
use Rattle.rp_language.specs.Name.{label_eq}
use Rattle.rp_language.specs.Expression.{Command}
use Rattle.rp_model.specs.states.State.{State, opening}
use Rattle.rp_model.specs.commands.Verdict.{Refusal, refused}
use Rattle.rp_model.specs.commands.Rule.{rule_of, proofs_of, after_command}
use Rattle.rp_language.specs.Grammar.{Version, one, two, Fault, too_long, Reading, blank, command, bad, reading}
use Rattle.rp_reports.specs.Text.{Answer, answer_lines, line_end}

-- ---- the lines of a script

-- a line without one carriage return at its end
abbrev pub without_return : List ℕ → List ℕ
without_return line = elim (slice_index line (length line - 1) == 13) [ true ↦ take (length line - 1) line | false ↦ line ]

-- the piece after the last line end, as a line unless it is empty
abbrev pub last_line : List ℕ → List (List ℕ)
last_line [] = []
last_line (b ∷ bs) = (b ∷ bs) ∷ []

-- the lines of the pieces between line ends; each piece except the last loses one carriage return at its end
abbrev pub lines_of_pieces : List (List ℕ) → List (List ℕ)
lines_of_pieces [] = []
lines_of_pieces (piece ∷ []) = last_line piece
lines_of_pieces (piece ∷ next ∷ pieces) = without_return piece ∷ lines_of_pieces (next ∷ pieces)

-- the lines of a script
unfoldable pub script_lines : List ℕ → List (List ℕ)
script_lines bytes = lines_of_pieces (slice_split (λ b. b == line_end) bytes)

-- ---- versions

-- the line that begins a script of version 2
abbrev pub script_mark : List ℕ
script_mark = codes "rp 2"

-- the line that begins the report of a script of version 2
abbrev pub report_mark : List ℕ
report_mark = codes "> 0 rp 2"

-- version 2 if the first line is the mark, otherwise version 1
abbrev pub version_by : List ℕ → List (List ℕ) → Version
version_by mark [] = one
version_by mark (line ∷ lines) = elim (label_eq line mark) [ true ↦ two | false ↦ one ]

-- the lines without the mark of their version
abbrev pub body_of : Version → List (List ℕ) → List (List ℕ)
body_of one lines = lines
body_of two lines = drop 1 lines

-- the lines after the mark of their version, if it has one
abbrev pub marked : List ℕ → Version → List (List ℕ) → List (List ℕ)
marked mark one lines = lines
marked mark two lines = mark ∷ lines

-- the version of a script
unfoldable pub script_version : List ℕ → Version
script_version bytes = version_by script_mark (script_lines bytes)

-- the body of a script: its lines without the mark; the first has the number 1
unfoldable pub script_body : List ℕ → List (List ℕ)
script_body bytes = body_of (script_version bytes) (script_lines bytes)

-- ---- the machine of sets

-- the echoed bytes of a bad line: none if it is too long
abbrev pub echoed : Fault → List ℕ → List ℕ
echoed too_long line = []
echoed _ line = line

-- the answer to a blank line: an empty echo and no lines
abbrev pub blank_answer : ℕ → Answer
blank_answer n = record { number = n; echo = []; proofs = []; verdicts = [] }

-- the answer to a bad line
abbrev pub bad_answer : ℕ → List ℕ → Fault → Answer
bad_answer n line f = record { number = n; echo = echoed f line; proofs = []; verdicts = refused (Refusal.bad f) ∷ [] }

-- the answer to a command, with verdicts by the rule of sets and the proof lines of its tests
pub record AnswersCommand (s : State) (n : ℕ) (line : List ℕ) (c : Command) (a : Answer) : Type 0 where
  pub number : a.number ≡ n
  pub echo : a.echo ≡ line
  pub proofs : a.proofs ≡ proofs_of s c
  pub verdicts : rule_of s c a.verdicts

-- the answer to line n by its reading
abbrev pub IsAnswerTo : State → ℕ → List ℕ → Reading → Answer → Type 0
IsAnswerTo s n line blank a = a ≡ blank_answer n
IsAnswerTo s n line (bad f) a = a ≡ bad_answer n line f
IsAnswerTo s n line (command c) a = AnswersCommand s n line c a

-- the state after line n by its reading
abbrev pub after_reading : ℕ → State → Reading → State
after_reading n s (command c) = after_command n s c
after_reading n s _ = s

-- the report lines, full or brief, of some lines of a script, from a state on; the first line has the number n
abbrev pub IsReportFrom : Version → Bool → State → ℕ → List (List ℕ) → List (List ℕ) → Type 0
IsReportFrom v brief s n [] told = told ≡ []
IsReportFrom v brief s n (line ∷ lines) told =
    (a : Answer) × (rest : List (List ℕ)) × IsAnswerTo s n line (reading v line) a × IsReportFrom v brief (after_reading n s (reading v line)) (suc n) lines rest × (told ≡ answer_lines brief a ++ rest)

-- the report lines of a script, full or brief, after the mark of its version
abbrev pub IsReportOf : Bool → List ℕ → List (List ℕ) → Type 0
IsReportOf brief bytes told =
    (rest : List (List ℕ)) × IsReportFrom (script_version bytes) brief opening 1 (script_body bytes) rest × (told ≡ marked report_mark (script_version bytes) rest)

-- the report lines of a script
abbrev pub IsReport : List ℕ → List (List ℕ) → Type 0
IsReport bytes told = IsReportOf false bytes told

-- the report lines of a script, without the proof lines
abbrev pub IsBriefReport : List ℕ → List (List ℕ) → Type 0
IsBriefReport bytes told = IsReportOf true bytes told
