-- Layers that lines choose: which are new, which one a script ends in, and in which one a lot is registered.
use Rattle.std.specs.Prelude.{◌≡◌, ℕ, suc, ◌+◌, Bool, true, false, if◌then◌else◌, take, drop, List, [], ◌∷◌, ◌++◌, Option, None, Some, option_map, IfSome, codes}
use Rattle.std.specs.List.{filter_map}
use Rattle.std.specs.Str.{bytes_eq}
use Rattle.rp_language.specs.Expression.{register}
use Rattle.rp_language.specs.Grammar.{Version, Reading, command, reading}
use Rattle.rp_language.specs.Name.{Label, is_among, name_of}
use Rattle.rp_model.specs.states.State.{base_layer}
use Rattle.rp_reports.specs.Report.{script_body, script_lines, script_version}
use Rattle.rp_reports.specs.Text.{line_end}
use Rattle.rp_book.specs.Lines.{last_number}
use Rattle.rp_book_service.specs.declared.add.Outcome.{Outcome}
use Rattle.rp_book_service.specs.declared.add.Outcome.TheVariants.{Added, Empty, Refused}
use Rattle.rp_book_service.specs.declared.layers.Addition.{Addition}
use Rattle.rp_book_service.specs.declared.layers.Choice.{Choice}
use Rattle.rp_book_service.specs.declared.layers.Inherited.{Inherited}

-- the layer that a line chooses; none unless the line is `layer X` for a name X
abbrev pub layer_of_line : List ℕ → Option Label
layer_of_line line = elim (bytes_eq (take 6 line) (codes "layer ")) [ true ↦ name_of (drop 6 line) | false ↦ None ]

-- the layers that the lines of a text choose, in order
abbrev pub layers_of : List ℕ → List Label
layers_of text = filter_map layer_of_line (script_lines text)

-- the labels of the second list that are not in the first, each once, in order
abbrev pub unknown_of : List Label → List Label → List Label
unknown_of known [] = []
unknown_of known (x ∷ xs) = if is_among x known then unknown_of known xs else x ∷ unknown_of (known ++ x ∷ []) xs

-- the layers that lines choose and no line of a script does, each once, in order; a script begins in the layer `base`
abbrev pub first_layers : List ℕ → List ℕ → List Label
first_layers script lines = unknown_of (base_layer ∷ layers_of script) (layers_of lines)

-- the last choice of a layer after a line with a number
abbrev pub choice_after : Option Choice → ℕ → List ℕ → Option Choice
choice_after before n line = elim (layer_of_line line) [ Some x ↦ Some (record { layer = x; line = n }) | None ↦ before ]

-- the last choice of a layer after lines, the first of which has the number n
abbrev pub choice_in : Option Choice → ℕ → List (List ℕ) → Option Choice
choice_in before n [] = before
choice_in before n (line ∷ lines) = choice_in (choice_after before n line) (suc n) lines

-- the last choice of a layer in a script; none if no line chooses a layer
abbrev pub last_choice : List ℕ → Option Choice
last_choice script = choice_in None 1 (script_body script)

-- a line with this reading registers a lot
abbrev pub registers : Reading → Bool
registers (command (register x e)) = true
registers _ = false

-- the number of the first line that registers a lot, if no line before it chooses a layer; the first line has the number n
abbrev pub first_registration : Version → ℕ → List (List ℕ) → Option ℕ
first_registration v n [] = None
first_registration v n (line ∷ lines) = if registers (reading v line) then Some n else elim (layer_of_line line) [ Some x ↦ None | None ↦ first_registration v (suc n) lines ]

-- the last choice of a layer in a script, with the first of the added lines that registers a lot in that layer; none if no line of the script chooses a layer, or if the added lines choose a layer first or register nothing
abbrev pub inherited_from : List ℕ → List ℕ → Option Inherited
inherited_from script lines = elim (last_choice script) [
  | None ↦ None
  | Some choice ↦ option_map (λ n. record { line = n; choice = choice }) (first_registration (script_version script) (last_number script + 1) (script_lines lines))
]

-- the layers that lines choose first, and the layer in which they register a lot without choosing it
pub record IsAddition (script lines : List ℕ) (addition : Addition) : Type 0 where
  pub layers : addition.layers.items ≡ first_layers script lines
  pub inherited : addition.inherited ≡ inherited_from script lines

-- if lines were added to a script that a book tells, the outcome says which layers they choose first, and in which layer they register a lot without choosing it; it is `Empty` only if there are no lines
abbrev pub HasAddition : Option (List ℕ) → List ℕ → Outcome → Type 0
HasAddition told lines (Added addition) = IfSome told (λ script. IsAddition script lines addition)
HasAddition told lines Refused = Unit {0}
HasAddition told lines Empty = lines ≡ []

-- the outcome is that the lines were added, with this addition, or that there are none
abbrev pub IsAdded : List ℕ → Addition → Outcome → Type 0
IsAdded lines addition (Added also) = also ≡ addition
IsAdded lines addition Empty = lines ≡ []
IsAdded lines addition Refused = ⊥

-- the line that chooses a layer
abbrev pub layer_line : Label → List ℕ
layer_line x = codes "layer " ++ x ++ line_end ∷ []

-- lines that begin with the choice of a layer, if one is named and there are lines
abbrev pub lines_in : Option Label → List ℕ → List ℕ
lines_in None lines = lines
lines_in (Some x) [] = []
lines_in (Some x) (b ∷ bs) = layer_line x ++ b ∷ bs
