-- A script and its whole report, by computation.
use Rattle.std.specs.Prelude.{◌≡◌, ℕ, true, List, [], ◌∷◌, codes, refl}
use Rattle.rp_worked.proofs.Opened.{opened}
use Rattle.rp_reports.specs.Text.{text_of_lines}
use Rattle.rp_reports.specs.Machine.{report}

-- lines, each with its line end
abbrev text : List (List ℕ) → List ℕ
text lines = text_of_lines lines

building : report true (text (codes "register s0 box 0 0 0 60000 40000 3000" ∷ codes "cut s0 half 1 6 0 -150000 s0a s0b" ∷ codes "neighbours s0a" ∷ codes "audit" ∷ codes "list" ∷ []))
    ≡ (codes "> 1 register s0 box 0 0 0 60000 40000 3000" ∷ codes "= ok" ∷ codes "> 2 cut s0 half 1 6 0 -150000 s0a s0b" ∷ codes "= ok" ∷ codes "> 3 neighbours s0a" ∷ codes "= neighbours 1" ∷ codes "= parcel s0b" ∷ codes "> 4 audit" ∷ codes "= clear 2" ∷ codes "> 5 list" ∷ codes "= parcels 2" ∷ codes "= lot s0a born 2 live from s0" ∷ codes "= lot s0b born 2 live from s0" ∷ [])
unfolding opened
building = refl
