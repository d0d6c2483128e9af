-- A script and its whole report, by computation.
use Rattle.std.specs.Prelude.{◌≡◌, ℕ, true, List, [], ◌∷◌, codes, refl}
use Rattle.rp_worked.proofs.Opened.{opened}
use Rattle.rp_reports.specs.Text.{text_of_lines}
use Rattle.rp_reports.specs.Machine.{report}

-- lines, each with its line end
abbrev text : List (List ℕ) → List ℕ
text lines = text_of_lines lines

cut_and_joined : report true (text (codes "register p box 0 0 0 10 10 10" ∷ codes "cut p half 1 1 0 -10 east west" ∷ codes "at 5 5 5 1" ∷ codes "at 4 5 5 1" ∷ codes "consolidate q 2 east west" ∷ codes "equal lot q box 0 0 0 10 10 10" ∷ codes "asof 1 5 5 5 1" ∷ codes "asof 2 5 5 5 1" ∷ codes "history q" ∷ []))
    ≡ (codes "> 1 register p box 0 0 0 10 10 10" ∷ codes "= ok" ∷ codes "> 2 cut p half 1 1 0 -10 east west" ∷ codes "= ok" ∷ codes "> 3 at 5 5 5 1" ∷ codes "= parcel east" ∷ codes "> 4 at 4 5 5 1" ∷ codes "= parcel west" ∷ codes "> 5 consolidate q 2 east west" ∷ codes "= ok" ∷ codes "> 6 equal lot q box 0 0 0 10 10 10" ∷ codes "= yes" ∷ codes "> 7 asof 1 5 5 5 1" ∷ codes "= parcel p" ∷ codes "> 8 asof 2 5 5 5 1" ∷ codes "= parcel east" ∷ codes "> 9 history q" ∷ codes "= lots 4" ∷ codes "= lot p born 1 ended 2" ∷ codes "= lot east born 2 ended 5 from p" ∷ codes "= lot west born 2 ended 5 from p" ∷ codes "= lot q born 5 live from east west" ∷ [])
unfolding opened
cut_and_joined = refl
