-- A script and its whole report, by computation.
use Rattle.std.specs.Prelude.{◌≡◌, ℕ, false, List, [], ◌∷◌, codes, refl}
use Rattle.rp_worked.proofs.Opened.{opened}
use Rattle.rp_reports.specs.Text.{text_of_lines}
use Rattle.rp_reports.specs.Machine.{report}

-- lines, each with its line end
abbrev text : List (List ℕ) → List ℕ
text lines = text_of_lines lines

whole_cube : report false (text (codes "empty half 0 0 0 1" ∷ []))
    ≡ (codes "> 1 empty half 0 0 0 1" ∷ codes "  in (-16777216 -16777216 -16777216 1) (-16777216 -16777216 16777216 1) (-16777216 16777216 -16777216 1) (16777216 -16777216 -16777216 1)" ∷ codes "  drop (0 0 0 1) 1*(0 0 0 -1)" ∷ codes "  box -16777216 -16777216 -16777216 16777216 16777216 16777216" ∷ codes "  in (-16777216 -16777216 -16777216 1) (-16777216 -16777216 16777216 1) (-16777216 16777216 -16777216 1) (16777216 -16777216 -16777216 1)" ∷ codes "= no" ∷ [])
unfolding opened
whole_cube = refl
