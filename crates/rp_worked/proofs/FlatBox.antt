-- A script and its whole report, by computation.
use Rattle.std.specs.Prelude.{◌≡◌, ℕ, false, List, [], ◌∷◌, codes, refl}
use Rattle.rp_worked.proofs.Opened.{opened}
use Rattle.rp_reports.specs.Text.{text_of_lines}
use Rattle.rp_reports.specs.Machine.{report}

-- lines, each with its line end
abbrev text : List (List ℕ) → List ℕ
text lines = text_of_lines lines

flat_box : report false (text (codes "empty box 0 0 0 0 10 10" ∷ []))
    ≡ (codes "> 1 empty box 0 0 0 0 10 10" ∷ codes "  out 1*(1 0 0 0) 1*(-1 0 0 0)" ∷ codes "= yes" ∷ [])
unfolding opened
flat_box = refl
