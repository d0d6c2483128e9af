-- Acts up to a date, and what is put of them.
use Rattle.std.specs.Prelude.{◌≡◌, ◌≤◌, ◌+◌, ℕ, Bool, if◌then◌else◌, max, take, List, [], ◌∷◌, ◌++◌, length, Option, codes, decimal}
use Rattle.std.specs.Cmp.Lexicographic.{slice_cmp}
use Rattle.std.specs.Ordering.{is_le, nat_cmp}
use Rattle.rp_book.specs.Act.{Told}
use Rattle.rp_book.specs.declared.act.Act.{Act}
use Rattle.rp_io.specs.Bytes.{Appends}
use Rattle.rp_language.specs.Name.{Label}
use Rattle.rp_reports.specs.Report.{script_body, script_version}
use Rattle.rp_reports.specs.Text.{text_of_lines}
use Rattle.rp_book_service.specs.Added.{PutsBehind}
use Rattle.rp_book_service.specs.Children.{children_text}
use Rattle.rp_book_service.specs.Events.{events_text}
use Rattle.rp_book_service.specs.Layers.{lines_in}

-- a time is on the date or before: the first ten characters of the time, its date, are not after the date
abbrev pub is_by : List ℕ → List ℕ → Bool
is_by date time = is_le (slice_cmp nat_cmp (take 10 time) date)

-- the number of the last line of an act that was added on the date or before; otherwise 0
abbrev pub line_by : List ℕ → Told → ℕ
line_by date act = if is_by date act.added then act.last else 0

-- the number of the last line that was added on the date or before; 0 if there is none
abbrev pub last_by : List ℕ → List Told → ℕ
last_by date [] = 0
last_by date (act ∷ acts) = max (line_by date act) (last_by date acts)

-- the act has the line
abbrev pub HasLine : ℕ → Act → Type 0
HasLine line act = (act.first ≤ line) × (line ≤ act.last)

-- the words of a line, each after a space
abbrev pub spaced : List (List ℕ) → List ℕ
spaced [] = []
spaced (word ∷ words) = 32 ∷ word ++ spaced words

-- the line of the question whose a place was after line n
abbrev pub as_of_line : ℕ → List (List ℕ) → List ℕ
as_of_line n words = codes "asof " ++ decimal n ++ spaced words ++ 10 ∷ []

-- the line of the question of the history of a lot
abbrev pub history_line : List ℕ → List ℕ
history_line id = codes "history " ++ id ++ 10 ∷ []

-- the answer to `asof` for a point was put, as of the last line of these acts that was added on a date or before; if a layer is named, the answer to the line that chooses it was put first; the mark says whether a line is refused
abbrev pub PutsAsOf : List ℕ → List Told → List ℕ → Option Label → List (List ℕ) → Bool → Option (List ℕ) → Option (List ℕ) → Type 0
PutsAsOf script acts date layer point mark old new = PutsBehind script (lines_in layer (as_of_line (last_by date acts) point)) old new mark

-- a script with this question after it has n bytes
abbrev pub HasAsOfLength : List Told → List ℕ → Option Label → List (List ℕ) → ℕ → List ℕ → Type 0
HasAsOfLength acts date layer point n script = n ≡ length script + length (lines_in layer (as_of_line (last_by date acts) point))

-- the answer to `history` for a lot was put, and the mark says whether it is a refusal; then those of these acts in which the lots of the answer were born and ended, and then, for each line of the answer that says that a lot ended, what the lot became
pub record PutsHistory (script : List ℕ) (acts : List Told) (id : List ℕ) (mark : Bool) (old new : Option (List ℕ)) : Type 0 where
  pub between : Option (List ℕ)
  pub answer : PutsBehind script (history_line id) old between mark
  pub others : Appends between new (events_text acts (text_of_lines answer.told) ++ children_text (script_version script) (script_body script) (text_of_lines answer.told))
