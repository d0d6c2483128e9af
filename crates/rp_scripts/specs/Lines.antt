-- The lines into which a text is divided, to be put one at a time, and the line that comes before all others.
use Rattle.std.specs.Prelude.{ℕ, ◌+◌, ◌==◌, Bool, List, [], take, drop}
use Rattle.std.specs.List.{position_or_len}
use Rattle.rp_language.specs.Grammar.{Version, one, two}
use Rattle.rp_reports.specs.Text.{line_end}

-- the byte ends a line
abbrev pub is_line_end : ℕ → Bool
is_line_end b = b == line_end

-- the first line of a text, with its line end
abbrev pub first_line : List ℕ → List ℕ
first_line text = take (position_or_len is_line_end text + 1) text

-- the text after its first line
abbrev pub behind_first_line : List ℕ → List ℕ
behind_first_line text = drop (position_or_len is_line_end text + 1) text

-- the text of a mark in a version; none in version 1, which has no mark
abbrev pub mark_text : List ℕ → Version → List ℕ
mark_text text one = []
mark_text text two = text
