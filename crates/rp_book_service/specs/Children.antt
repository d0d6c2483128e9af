-- The lots that an ended lot became, and the text that names them.
use Rattle.std.specs.Prelude.{ℕ, ◌-◌, ◌==◌, Bool, true, false, List, [], ◌∷◌, ◌++◌, length, take, drop, Option, None, Some, codes, decimal, option_map, option_and_then}
use Rattle.std.specs.List.{after_first, before_first, flat_map, slice_get}
use Rattle.std.specs.Str.{bytes_eq}
use Rattle.rp_language.specs.Expression.{Command, cut, subdivide, consolidate}
use Rattle.rp_language.specs.Grammar.{Version, Reading, command, reading, space}
use Rattle.rp_language.specs.Name.{Label}
use Rattle.rp_model.specs.commands.Checks.{child_ids}
use Rattle.rp_reports.specs.ProofText.{line_number}
use Rattle.rp_reports.specs.Report.{script_lines}
use Rattle.rp_reports.specs.Text.{line_end}

-- ---- a line of a report that says that a lot ended

-- a byte is a space
abbrev pub is_space : ℕ → Bool
is_space b = b == space

-- the text after its front; none unless the text begins with the front
abbrev pub after_front : List ℕ → List ℕ → Option (List ℕ)
after_front front text = elim (bytes_eq (take (length front) text) front) [ true ↦ Some (drop (length front) text) | false ↦ None ]

-- the number of a line, if the text begins with `ended` and this number
abbrev pub number_after_ended : List ℕ → Option ℕ
number_after_ended text = option_and_then (λ rest. line_number (before_first is_space rest)) (after_front (codes "ended ") text)

-- the number after `ended`, if the text begins with `born`, a word, and `ended`
abbrev pub number_after_born : List ℕ → Option ℕ
number_after_born text = option_and_then (λ rest. number_after_ended (after_first is_space rest)) (after_front (codes "born ") text)

-- the id of the lot that ended by a line of a report, and the number of the script's line in which it ended; none unless the report's line begins as `= lot ID born N ended M`
abbrev pub ended_lot : List ℕ → Option (List ℕ × ℕ)
ended_lot line = option_and_then (λ rest. option_map (λ n. (before_first is_space rest, n)) (number_after_born (after_first is_space rest))) (after_front (codes "= lot ") line)

-- ---- the lots that a lot became

-- the new lots of a command in which lots end; none if no lot ends, or if lots end without a new one
abbrev pub children : Command → List Label
children (cut x e first second) = first ∷ second ∷ []
children (subdivide x entries) = child_ids entries
children (consolidate x ids) = x ∷ []
children _ = []

-- the new lots of a line with this reading in which lots end
abbrev pub children_of : Reading → List Label
children_of (command c) = children c
children_of _ = []

-- ids, each after a comma
abbrev pub after_commas : List Label → List ℕ
after_commas [] = []
after_commas (x ∷ xs) = codes ", " ++ x ++ after_commas xs

-- the text that names the lots that a lot became in line n; empty if there are none
abbrev pub became : List ℕ → ℕ → List Label → List ℕ
became id n [] = []
became id n (x ∷ xs) = codes "  " ++ id ++ codes " ended " ++ decimal n ++ codes ": became " ++ x ++ after_commas xs ++ line_end ∷ []

-- the text for a lot that ended in line n of a body: the new lots of the command of the line
abbrev pub became_in : Version → List (List ℕ) → List ℕ → ℕ → List ℕ
became_in v body id n = elim (slice_get body (n - 1)) [ None ↦ [] | Some line ↦ became id n (children_of (reading v line)) ]

-- what is written for a line of a report: what a lot became, if the line says that the lot ended
abbrev pub became_by : Version → List (List ℕ) → List ℕ → List ℕ
became_by v body told = elim (ended_lot told) [ None ↦ [] | Some lot ↦ became_in v body lot.0 lot.1 ]

-- what is written for an answer: for each of its lines that says that a lot ended, in order, what the lot became
abbrev pub children_text : Version → List (List ℕ) → List ℕ → List ℕ
children_text v body answer = flat_map (became_by v body) (script_lines answer)
