-- A script and its whole report, by computation.
use Rattle.std.specs.Prelude.{◌≡◌, ℕ, true, List, [], ◌∷◌, codes, refl}
use Rattle.rp_worked.proofs.Opened.{opened}
use Rattle.rp_reports.specs.Text.{text_of_lines}
use Rattle.rp_reports.specs.Machine.{report}

-- lines, each with its line end
abbrev text : List (List ℕ) → List ℕ
text lines = text_of_lines lines

registering : report true (text (codes "register a box 0 0 0 10 10 10" ∷ codes "register b box 5 0 0 15 10 10" ∷ codes "register b box 10 0 0 20 10 10" ∷ codes "register a box 30 0 0 40 10 10" ∷ codes "retire a" ∷ codes "register a box 30 0 0 40 10 10" ∷ codes "list" ∷ codes "at 10 5 5 1" ∷ codes "at 5 5 5 1" ∷ codes "audit" ∷ codes "register e none" ∷ []))
    ≡ (codes "> 1 register a box 0 0 0 10 10 10" ∷ codes "= ok" ∷ codes "> 2 register b box 5 0 0 15 10 10" ∷ codes "= refused overlaps a" ∷ codes "> 3 register b box 10 0 0 20 10 10" ∷ codes "= ok" ∷ codes "> 4 register a box 30 0 0 40 10 10" ∷ codes "= refused known a" ∷ codes "> 5 retire a" ∷ codes "= ok" ∷ codes "> 6 register a box 30 0 0 40 10 10" ∷ codes "= refused known a" ∷ codes "> 7 list" ∷ codes "= parcels 1" ∷ codes "= lot b born 3 live" ∷ codes "> 8 at 10 5 5 1" ∷ codes "= parcel b" ∷ codes "> 9 at 5 5 5 1" ∷ codes "= nobody" ∷ codes "> 10 audit" ∷ codes "= clear 1" ∷ codes "> 11 register e none" ∷ codes "= refused empty" ∷ [])
unfolding opened
registering = refl
