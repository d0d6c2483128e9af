-- The lines of a report that are still to come.
use Rattle.std.specs.Prelude.{ℕ, Bool, ◌==◌, List, [], ◌∷◌, Option, Some, None}
use Rattle.rp_reports.specs.Output.{report_lines}
use Rattle.rp_reports.specs.Text.{line_end}
use denote.Ref.{Bor}

-- the next line and the lines of the bytes after it; none if no line is left
abbrev pub lines_left : Option (Bor (List ℕ)) → List ℕ → List (List ℕ)
lines_left None rest = []
lines_left (Some line) rest = line.now ∷ report_lines rest

-- the number of next lines: one, or none
abbrev pub count_next : Option (Bor (List ℕ)) → ℕ
count_next None = 0
count_next (Some line) = 1

-- the next line, if one is left
abbrev pub next_line : List (List ℕ) → Option (List ℕ)
next_line [] = None
next_line (line ∷ lines) = Some line

-- the byte ends a line
abbrev pub is_line_end : ℕ → Bool
is_line_end b = b == line_end
