-- A line of an upgraded script with its end.
use Rattle.std.specs.Prelude.{ℕ, List, [], ◌∷◌, ◌++◌}
use Rattle.rp_language.specs.Grammar.{Reading}
use Rattle.rp_reports.specs.Text.{line_end}
use Rattle.rp_reports.specs.Upgrade.{upgraded_line}

-- the line of the upgraded script for a line with the given reading, with its line end
abbrev pub upgraded_text : List ℕ → Reading → List ℕ
upgraded_text line r = upgraded_line line r ++ line_end ∷ []
