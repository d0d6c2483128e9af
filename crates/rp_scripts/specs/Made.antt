-- The script of a building, line by line.
use Rattle.std.specs.Prelude.{ℕ, ◌+◌, ◌*◌, List, [], ◌∷◌, ◌++◌, codes}
use Rattle.std.specs.Fmt.{decimal}
use Rattle.rp_reports.specs.Made.{next_seed, drawn, building_lines}
use Rattle.rp_scripts.specs.declared.made.MadeLine.{MadeLine}
use Rattle.rp_scripts.specs.declared.made.MadeLine.TheVariants.{Register, Cut, Neighbours, Audit, Lots}
use Rattle.rp_scripts.specs.declared.made.Stage.{Stage}
use Rattle.rp_scripts.specs.declared.made.Stage.TheVariants.{Between, Registered, Divided, Audited, Listed}

-- the text of a line
abbrev pub made_line : MadeLine → List ℕ
made_line (Register i) = codes "register s" ++ decimal i ++ codes " box 0 0 " ++ decimal (3000 * i) ++ codes " 60000 40000 " ++ decimal (3000 * (i + 1))
made_line (Cut i a b) = codes "cut s" ++ decimal i ++ codes " half " ++ decimal a ++ codes " " ++ decimal b ++ codes " 0 -" ++ decimal (30000 * a + 20000 * b) ++ codes " s" ++ decimal i ++ codes "a s" ++ decimal i ++ codes "b"
made_line (Neighbours i) = codes "neighbours s" ++ decimal i ++ codes "a"
made_line Audit = codes "audit"
made_line Lots = codes "list"

-- the number of storeys that have begun and not ended
abbrev pub begun : Stage → ℕ
begun Between = 0
begun Registered = 1
begun Divided = 1
begun Audited = 0
begun Listed = 0

-- the lines still to come: those of storey i, if it has begun, those of n further storeys, and the last ones
abbrev pub lines_to_come : Stage → ℕ → ℕ → ℕ → List (List ℕ)
lines_to_come Between i n seed = building_lines n i seed
lines_to_come Registered i n seed =
    made_line (Cut i (drawn (next_seed seed) 9 + 1) (drawn (next_seed (next_seed seed)) 9 + 1)) ∷ made_line (Neighbours i) ∷ building_lines n (i + 1) (next_seed (next_seed seed))
lines_to_come Divided i n seed = made_line (Neighbours i) ∷ building_lines n (i + 1) seed
lines_to_come Audited i n seed = made_line Lots ∷ []
lines_to_come Listed i n seed = []
