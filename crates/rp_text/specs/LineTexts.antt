-- The text of lines of a report.
use Rattle.std.specs.Prelude.{ℕ, List, [], ◌∷◌, ◌++◌}
use Rattle.std.specs.List.{flat_map}
use Rattle.rp_reports.specs.Text.{line_end}

-- the texts of the items of a list, each with a line end
abbrev pub lines_text : {X : Type 0} → (X → List ℕ) → List X → List ℕ
lines_text text xs = flat_map (λ x. text x ++ line_end ∷ []) xs
