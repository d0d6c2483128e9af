-- Upgrade: a script of either version as a script of version 2, line by line.
use Rattle.std.specs.Prelude.{ℕ, List, [], ◌∷◌, map}
use Rattle.rp_language.specs.Grammar.{two, Reading, blank, command, bad, reading, spelling}
use Rattle.rp_reports.specs.Report.{script_mark, script_version, script_body}

-- the line of the upgraded script for a line with the given reading: a blank line stays, a command has its spelling, a bad line becomes empty
abbrev pub upgraded_line : List ℕ → Reading → List ℕ
upgraded_line line blank = line
upgraded_line line (command c) = spelling two c
upgraded_line line (bad f) = []

-- the lines of the upgraded script
unfoldable pub upgraded_script : List ℕ → List (List ℕ)
upgraded_script bytes = script_mark ∷ map (λ line. upgraded_line line (reading (script_version bytes) line)) (script_body bytes)
