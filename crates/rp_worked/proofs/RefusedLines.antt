-- A script and its whole report, by computation.
use Rattle.std.specs.Prelude.{◌≡◌, ℕ, true, List, [], ◌∷◌, codes, refl}
use Rattle.rp_worked.proofs.Opened.{opened}
use Rattle.rp_reports.specs.Text.{text_of_lines}
use Rattle.rp_reports.specs.Machine.{report}

-- lines, each with its line end
abbrev text : List (List ℕ) → List ℕ
text lines = text_of_lines lines

refused_lines : report true (text (codes "member half 1 0 0 00 0 0 0 1" ∷ codes "member half 1 0 0 -0 0 0 0 1" ∷ codes "member  half 1 0 0 0 0 0 0 1" ∷ codes "member half 1 0 0 0 0 0 0 1 1" ∷ codes "half 1 0 0 0" ∷ codes "member half 16777217 0 0 x" ∷ codes "member half 1 0 0 0 0 0 0 0" ∷ codes "member half 0 0 0 0 0 0 0 1" ∷ []))
    ≡ (codes "> 1 member half 1 0 0 00 0 0 0 1" ∷ codes "= refused syntax" ∷ codes "> 2 member half 1 0 0 -0 0 0 0 1" ∷ codes "= refused syntax" ∷ codes "> 3 member  half 1 0 0 0 0 0 0 1" ∷ codes "= refused syntax" ∷ codes "> 4 member half 1 0 0 0 0 0 0 1 1" ∷ codes "= refused syntax" ∷ codes "> 5 half 1 0 0 0" ∷ codes "= refused syntax" ∷ codes "> 6 member half 16777217 0 0 x" ∷ codes "= refused range" ∷ codes "> 7 member half 1 0 0 0 0 0 0 0" ∷ codes "= refused range" ∷ codes "> 8 member half 0 0 0 0 0 0 0 1" ∷ codes "= refused zero" ∷ [])
unfolding opened
refused_lines = refl
