-- A script and its whole report, by computation.
use Rattle.std.specs.Prelude.{◌≡◌, ℕ, true, List, [], ◌∷◌, codes, refl}
use Rattle.rp_worked.proofs.Opened.{opened}
use Rattle.rp_reports.specs.Text.{text_of_lines}
use Rattle.rp_reports.specs.Machine.{report}

-- lines, each with its line end
abbrev text : List (List ℕ) → List ℕ
text lines = text_of_lines lines

apart : report true (text (codes "rcc box 0 0 0 10 10 10 box 11 0 0 21 10 10" ∷ []))
    ≡ (codes "> 1 rcc box 0 0 0 10 10 10 box 11 0 0 21 10 10" ∷ codes "= DC" ∷ [])
unfolding opened
apart = refl
