-- A script and its whole report, by computation.
use Rattle.std.specs.Prelude.{◌≡◌, ℕ, false, List, [], ◌∷◌, codes, refl}
use Rattle.rp_worked.proofs.Opened.{opened}
use Rattle.rp_reports.specs.Text.{text_of_lines}
use Rattle.rp_reports.specs.Machine.{report}

-- lines, each with its line end
abbrev text : List (List ℕ) → List ℕ
text lines = text_of_lines lines

touching : report false (text (codes "rcc box 0 0 0 10 10 10 box 10 0 0 20 10 10" ∷ []))
    ≡ (codes "> 1 rcc box 0 0 0 10 10 10 box 10 0 0 20 10 10" ∷ codes "  in (0 0 0 1) (0 0 10 1) (0 10 0 1) (10 0 0 1)" ∷ codes "  box 0 0 0 10 10 10" ∷ codes "  in (10 0 0 1) (10 0 10 1) (10 10 0 1) (20 0 0 1)" ∷ codes "  box 10 0 0 20 10 10" ∷ codes "  out 1*(-1 0 0 10) 1*(1 0 0 -10)" ∷ codes "  at (10 0 0 1)" ∷ codes "= EC" ∷ [])
unfolding opened
touching = refl
