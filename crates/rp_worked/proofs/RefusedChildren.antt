-- A script and its whole report, by computation.
use Rattle.std.specs.Prelude.{◌≡◌, ℕ, true, List, [], ◌∷◌, codes, refl}
use Rattle.rp_worked.proofs.Opened.{opened}
use Rattle.rp_reports.specs.Text.{text_of_lines}
use Rattle.rp_reports.specs.Machine.{report}

-- lines, each with its line end
abbrev text : List (List ℕ) → List ℕ
text lines = text_of_lines lines

refused_children : report true (text (codes "register p box 0 0 0 10 10 10" ∷ codes "subdivide p 2 a box 0 0 0 4 10 10 b box 5 0 0 10 10 10" ∷ codes "subdivide p 2 a box 0 0 0 6 10 10 b box 5 0 0 10 10 10" ∷ codes "subdivide p 2 a box 0 0 0 5 10 10 b box 5 0 0 11 10 10" ∷ codes "subdivide p 2 a box 0 0 0 5 10 10 b box 5 0 0 5 10 10" ∷ codes "subdivide p 1 a box 0 0 0 10 10 10" ∷ codes "subdivide p 2 a box 0 0 0 5 10 10 a box 5 0 0 10 10 10" ∷ codes "cut p all a b" ∷ codes "cut p none a b" ∷ codes "cut p all a a" ∷ codes "subdivide p 2 a box 0 0 0 5 10 10 b box 5 0 0 10 10 10" ∷ codes "retire p" ∷ []))
    ≡ (codes "> 1 register p box 0 0 0 10 10 10" ∷ codes "= ok" ∷ codes "> 2 subdivide p 2 a box 0 0 0 4 10 10 b box 5 0 0 10 10 10" ∷ codes "= refused gap" ∷ codes "> 3 subdivide p 2 a box 0 0 0 6 10 10 b box 5 0 0 10 10 10" ∷ codes "= refused childrenoverlap 1 2" ∷ codes "> 4 subdivide p 2 a box 0 0 0 5 10 10 b box 5 0 0 11 10 10" ∷ codes "= refused outside 2" ∷ codes "> 5 subdivide p 2 a box 0 0 0 5 10 10 b box 5 0 0 5 10 10" ∷ codes "= refused emptychild 2" ∷ codes "> 6 subdivide p 1 a box 0 0 0 10 10 10" ∷ codes "= refused few" ∷ codes "> 7 subdivide p 2 a box 0 0 0 5 10 10 a box 5 0 0 10 10 10" ∷ codes "= refused repeated a" ∷ codes "> 8 cut p all a b" ∷ codes "= refused emptyside 2" ∷ codes "> 9 cut p none a b" ∷ codes "= refused emptyside 1" ∷ codes "> 10 cut p all a a" ∷ codes "= refused same" ∷ codes "> 11 subdivide p 2 a box 0 0 0 5 10 10 b box 5 0 0 10 10 10" ∷ codes "= ok" ∷ codes "> 12 retire p" ∷ codes "= refused unknown p" ∷ [])
unfolding opened
refused_children = refl
