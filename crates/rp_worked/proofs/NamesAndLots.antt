-- A script and its whole report, by computation.
use Rattle.std.specs.Prelude.{◌≡◌, ℕ, false, List, [], ◌∷◌, codes, refl}
use Rattle.rp_worked.proofs.Opened.{opened}
use Rattle.rp_reports.specs.Text.{text_of_lines}
use Rattle.rp_reports.specs.Machine.{report}

-- lines, each with its line end
abbrev text : List (List ℕ) → List ℕ
text lines = text_of_lines lines

names_and_lots : report false (text (codes "let a = box 0 0 0 1 1 1" ∷ codes "let a = all" ∷ codes "empty name a" ∷ codes "empty name b" ∷ codes "show lot a" ∷ codes "show all" ∷ codes "history a" ∷ []))
    ≡ codes "> 1 let a = box 0 0 0 1 1 1" ∷ codes "  in (0 0 0 1) (0 0 1 1) (0 1 0 1) (1 0 0 1)" ∷ codes "  box 0 0 0 1 1 1" ∷ codes "= ok" ∷ codes "> 2 let a = all" ∷ codes "= refused known a" ∷ codes "> 3 empty name a" ∷ codes "  in (0 0 0 1) (0 0 1 1) (0 1 0 1) (1 0 0 1)" ∷ codes "= no" ∷ codes "> 4 empty name b" ∷ codes "= refused unknown b" ∷ codes "> 5 show lot a" ∷ codes "= refused unknown a" ∷ codes "> 6 show all" ∷ codes "= parts 1" ∷ codes "= part" ∷ codes "> 7 history a" ∷ codes "= refused unknown a" ∷ []
unfolding opened
names_and_lots = refl
