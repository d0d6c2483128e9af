-- A script and its whole report, by computation.
use Rattle.std.specs.Prelude.{◌≡◌, ℕ, true, List, [], ◌∷◌, codes, refl}
use Rattle.rp_worked.proofs.Opened.{opened}
use Rattle.rp_reports.specs.Text.{text_of_lines}
use Rattle.rp_reports.specs.Machine.{report}

-- lines, each with its line end
abbrev text : List (List ℕ) → List ℕ
text lines = text_of_lines lines

pieces : report true (text (codes "pieces or box 0 0 0 10 10 10 box 11 11 11 21 21 21" ∷ codes "pieces or box 0 0 0 10 10 10 box 10 10 10 20 20 20" ∷ []))
    ≡ (codes "> 1 pieces or box 0 0 0 10 10 10 box 11 11 11 21 21 21" ∷ codes "= pieces 2" ∷ codes "= piece 1" ∷ codes "= piece 2" ∷ codes "> 2 pieces or box 0 0 0 10 10 10 box 10 10 10 20 20 20" ∷ codes "= pieces 1" ∷ codes "= piece 1 2" ∷ [])
unfolding opened
pieces = refl
