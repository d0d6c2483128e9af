-- Prisms, by computation.
use Rattle.std.specs.Prelude.{◌≡◌, true, false, [], ◌∷◌, codes, refl}
use Rattle.rp_worked.proofs.Opened.{opened}
use Rattle.rp_reports.specs.Text.{text_of_lines}
use Rattle.rp_reports.specs.Machine.{report}
use Rattle.rp_reports.specs.Check.{finding, all_accepted}

square : report true (text_of_lines (codes "show prism 0 10 4 0 0 10 0 10 10 0 10" ∷ codes "show prism 0 10 2 0 0 1 1" ∷ []))
    ≡ (codes "> 1 show prism 0 10 4 0 0 10 0 10 10 0 10" ∷ codes "= parts 1" ∷ codes "= part (1 0 0 0) (-1 0 0 10) (0 1 0 0) (0 -1 0 10) (0 0 1 0) (0 0 -1 10)" ∷ codes "> 2 show prism 0 10 2 0 0 1 1" ∷ codes "= refused range" ∷ [])
unfolding opened
square = refl

accepted_square : finding (report false (text_of_lines (codes "show prism 0 10 4 0 0 10 0 10 10 0 10" ∷ codes "show prism 0 10 2 0 0 1 1" ∷ []))) ≡ all_accepted
unfolding opened
accepted_square = refl

same_as_box : report true (text_of_lines (codes "equal prism 0 10 4 0 0 10 0 10 10 0 10 box 0 0 0 10 10 10" ∷ []))
    ≡ (codes "> 1 equal prism 0 10 4 0 0 10 0 10 10 0 10 box 0 0 0 10 10 10" ∷ codes "= yes" ∷ [])
unfolding opened
same_as_box = refl

accepted_same_as_box : finding (report false (text_of_lines (codes "equal prism 0 10 4 0 0 10 0 10 10 0 10 box 0 0 0 10 10 10" ∷ []))) ≡ all_accepted
unfolding opened
accepted_same_as_box = refl

crossed : report false (text_of_lines (codes "member prism 0 10 4 0 0 10 10 10 0 0 10 5 2 5 1" ∷ codes "member prism 0 10 4 0 0 10 10 10 0 0 10 2 5 5 1" ∷ codes "member prism 0 10 4 0 0 10 10 10 0 0 10 8 5 5 1" ∷ codes "member prism 0 10 4 0 0 10 10 10 0 0 10 5 5 5 1" ∷ []))
    ≡ (codes "> 1 member prism 0 10 4 0 0 10 10 10 0 0 10 5 2 5 1" ∷ codes "= no" ∷ codes "> 2 member prism 0 10 4 0 0 10 10 10 0 0 10 2 5 5 1" ∷ codes "= yes" ∷ codes "> 3 member prism 0 10 4 0 0 10 10 10 0 0 10 8 5 5 1" ∷ codes "= yes" ∷ codes "> 4 member prism 0 10 4 0 0 10 10 10 0 0 10 5 5 5 1" ∷ codes "= yes" ∷ [])
unfolding opened
crossed = refl

accepted_crossed : finding (report false (text_of_lines (codes "member prism 0 10 4 0 0 10 10 10 0 0 10 5 2 5 1" ∷ codes "member prism 0 10 4 0 0 10 10 10 0 0 10 2 5 5 1" ∷ codes "member prism 0 10 4 0 0 10 10 10 0 0 10 8 5 5 1" ∷ codes "member prism 0 10 4 0 0 10 10 10 0 0 10 5 5 5 1" ∷ []))) ≡ all_accepted
unfolding opened
accepted_crossed = refl
