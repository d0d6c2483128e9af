-- The lines of a script, and the numbers of lines that are added.
use Rattle.std.specs.Prelude.{◌≡◌, ℕ, ◌+◌, ◌-◌, ◌<◌, List, [], ◌∷◌, length, slice_index}
use Rattle.rp_language.specs.Grammar.{Version, one, two}
use Rattle.rp_reports.specs.Text.{line_end}
use Rattle.rp_reports.specs.Report.{script_body, script_version}

-- the last byte ends a line
abbrev pub HasEnd : List ℕ → Type 0
HasEnd text = (0 < length text) × (slice_index text (length text - 1) ≡ line_end)

-- the last line has an end, if there is one
abbrev pub IsEnded : List ℕ → Type 0
IsEnded text = 0 < length text → slice_index text (length text - 1) ≡ line_end

-- the number of the last line of a script, as its report echoes it: the number of lines after the mark
abbrev pub last_number : List ℕ → ℕ
last_number script = length (script_body script)

-- the number of the first line of a script of a version: the mark has the number 0
abbrev pub number_of_first : Version → ℕ
number_of_first one = 1
number_of_first two = 0

-- the number of the first of the lines that are added to a script
abbrev pub first_number : List ℕ → List ℕ → ℕ
first_number [] lines = number_of_first (script_version lines)
first_number (b ∷ bs) lines = last_number (b ∷ bs) + 1
