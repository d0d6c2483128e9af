-- What is added to a book, and what the report says of it.
use Rattle.std.specs.Prelude.{◌↔◌, ℕ, ◌-◌, ◌==◌, Bool, true, false, IsTrue, List, [], ◌∷◌, ◌++◌, length, slice_index, Option}
use Rattle.std.specs.List.{list_any}
use Rattle.rp_io.specs.Bytes.{Appends}
use Rattle.rp_language.specs.Expression.{Command, register, cut, subdivide, consolidate, retire}
use Rattle.rp_language.specs.Grammar.{Version, Reading, command, reading}
use Rattle.rp_reports.specs.Text.{line_end, text_of_lines}
use Rattle.rp_book_service.specs.declared.add.Outcome.{Outcome}
use Rattle.rp_book_service.specs.declared.add.Outcome.TheVariants.{Added, Empty, Refused}
use Rattle.rp_reports.specs.Report.{IsReport, script_lines}
use Rattle.rp_reports.specs.Output.{is_refused_line}

-- the lines, with a line end after the last one
abbrev pub ended : List ℕ → List ℕ
ended [] = []
ended (b ∷ bs) = elim (slice_index (b ∷ bs) (length (b ∷ bs) - 1) == line_end) [ true ↦ b ∷ bs | false ↦ (b ∷ bs) ++ line_end ∷ [] ]

-- the mark is true iff a line of the report of the script is a refusal
pub record HasRefusal (script : List ℕ) (mark : Bool) : Type 0 where
  pub told : List (List ℕ)
  pub report : IsReport script told
  pub marks : IsTrue mark ↔ IsTrue (list_any is_refused_line told)

-- the lines put are those that the report of a script with further lines has after the report of the script; the mark says whether a line of that report is a refusal
pub record PutsBehind (script lines : List ℕ) (old new : Option (List ℕ)) (mark : Bool) : Type 0 where
  pub before : List (List ℕ)
  pub told : List (List ℕ)
  pub report_before : IsReport script before
  pub report : IsReport (script ++ lines) (before ++ told)
  pub text : Appends old new (text_of_lines told)
  pub marks : IsTrue mark ↔ IsTrue (list_any is_refused_line (before ++ told))

-- a line to be added is refused
abbrev pub is_refused : Outcome → Bool
is_refused Refused = true
is_refused _ = false

-- the first statement if the lines were added, otherwise the second
abbrev pub MatchOutcome : Outcome → Type 0 → Type 0 → Type 0
MatchOutcome (Added addition) P Q = P
MatchOutcome Refused P Q = Q
MatchOutcome Empty P Q = Q

-- the command adds or ends lots
abbrev pub is_change : Command → Bool
is_change (register x e) = true
is_change (cut x e y z) = true
is_change (subdivide x children) = true
is_change (consolidate x ys) = true
is_change (retire x) = true
is_change _ = false

-- a line with this reading adds or ends lots
abbrev pub changes : Reading → Bool
changes (command c) = is_change c
changes _ = false

-- some line adds or ends lots
abbrev pub has_change : Version → List ℕ → Bool
has_change v lines = list_any (λ line. changes (reading v line)) (script_lines lines)
