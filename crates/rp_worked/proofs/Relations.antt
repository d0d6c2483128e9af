-- A script and its whole report, by computation.
use Rattle.std.specs.Prelude.{◌≡◌, ℕ, true, List, [], ◌∷◌, codes, refl}
use Rattle.rp_worked.proofs.Opened.{opened}
use Rattle.rp_reports.specs.Text.{text_of_lines}
use Rattle.rp_reports.specs.Machine.{report}

-- lines, each with its line end
abbrev text : List (List ℕ) → List ℕ
text lines = text_of_lines lines

relations : report true (text (codes "rcc box 0 0 0 5 5 5 box 0 0 0 10 10 10" ∷ codes "rcc box 1 1 1 9 9 9 box 0 0 0 10 10 10" ∷ codes "rcc box 0 0 0 10 10 10 box 1 1 1 9 9 9" ∷ codes "rcc box -16777216 0 0 0 10 10 all" ∷ codes "rcc box 0 0 0 10 10 10 box 5 0 0 15 10 10" ∷ codes "rcc none all" ∷ []))
    ≡ (codes "> 1 rcc box 0 0 0 5 5 5 box 0 0 0 10 10 10" ∷ codes "= TPP" ∷ codes "> 2 rcc box 1 1 1 9 9 9 box 0 0 0 10 10 10" ∷ codes "= NTPP" ∷ codes "> 3 rcc box 0 0 0 10 10 10 box 1 1 1 9 9 9" ∷ codes "= NTPPi" ∷ codes "> 4 rcc box -16777216 0 0 0 10 10 all" ∷ codes "= NTPP" ∷ codes "> 5 rcc box 0 0 0 10 10 10 box 5 0 0 15 10 10" ∷ codes "= PO" ∷ codes "> 6 rcc none all" ∷ codes "= refused emptyregion 1" ∷ [])
unfolding opened
relations = refl
