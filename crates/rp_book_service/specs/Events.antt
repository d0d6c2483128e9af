-- The acts in which the lots of a history were born and ended, and what is written of them.
use Rattle.std.specs.Prelude.{ℕ, Bool, ◌&&◌, nat_le, List, [], ◌∷◌, ◌++◌, Option, None, Some, codes, decimal, find, option_map, option_and_then}
use Rattle.std.specs.List.{after_first, before_first, flat_map}
use Rattle.rp_book.specs.Act.{Told}
use Rattle.rp_reports.specs.ProofText.{line_number}
use Rattle.rp_reports.specs.Report.{script_lines}
use Rattle.rp_reports.specs.Text.{line_end}
use Rattle.rp_book_service.specs.Children.{after_front, ended_lot, is_space}

-- the number of a line, if the text begins with `born` and this number
abbrev pub number_born : List ℕ → Option ℕ
number_born text = option_and_then (λ rest. line_number (before_first is_space rest)) (after_front (codes "born ") text)

-- the id of the lot of a line of a report, and the number of the script's line in which it was born; none unless the report's line begins as `= lot ID born N`
abbrev pub born_lot : List ℕ → Option (List ℕ × ℕ)
born_lot line = option_and_then (λ rest. option_map (λ n. (before_first is_space rest, n)) (number_born (after_first is_space rest))) (after_front (codes "= lot ") line)

-- an act has the line with a number
abbrev pub has_line : ℕ → Told → Bool
has_line n act = nat_le act.first n && nat_le n act.last

-- the act that has the line with a number
abbrev pub act_with : ℕ → List Told → Option Told
act_with n acts = find (has_line n) acts

-- words and the text that comes after them, if it is told
abbrev pub told_after : List ℕ → Option (List ℕ) → List ℕ
told_after words None = []
told_after words (Some text) = words ++ text

-- that a lot was born, or ended, in the line with a number, and when the line was added
abbrev pub event_time : List ℕ → List ℕ → ℕ → List ℕ → List ℕ
event_time id word n added = codes "  " ++ id ++ word ++ decimal n ++ codes ": added " ++ added ++ codes " UTC"

-- the line that names the act in which a lot was born, or ended, with the number of the script's line
abbrev pub event_line : List ℕ → List ℕ → ℕ → Told → List ℕ
event_line id word n act = event_time id word n act.added ++ told_after (codes " by ") act.who ++ told_after (codes " under ") act.deed ++ line_end ∷ []

-- what is written of a lot that was born, or ended, in the line with a number; nothing if no act has this line
abbrev pub event_in : List Told → List ℕ → List ℕ → ℕ → List ℕ
event_in acts id word n = elim (act_with n acts) [ None ↦ [] | Some act ↦ event_line id word n act ]

-- the text for a lot and a number, if there are some
abbrev pub event_of : List Told → List ℕ → Option (List ℕ × ℕ) → List ℕ
event_of acts word None = []
event_of acts word (Some lot) = event_in acts lot.0 word lot.1

-- the text for a line of an answer: the act in which its lot was born, and then the act in which it ended
abbrev pub events_by : List Told → List ℕ → List ℕ
events_by acts told = event_of acts (codes " born ") (born_lot told) ++ event_of acts (codes " ended ") (ended_lot told)

-- the text for the lines of an answer, in order
abbrev pub events_text : List Told → List ℕ → List ℕ
events_text acts answer = flat_map (events_by acts) (script_lines answer)
