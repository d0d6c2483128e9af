-- Sections, by computation.
use Rattle.std.specs.Prelude.{◌≡◌, true, false, [], ◌∷◌, codes, refl}
use Rattle.rp_worked.proofs.Opened.{opened}
use Rattle.rp_reports.specs.Text.{text_of_lines}
use Rattle.rp_reports.specs.Machine.{report}
use Rattle.rp_reports.specs.Check.{finding, all_accepted, wrong_at}

box_at_5 : report true (text_of_lines (codes "section box 0 0 0 10 10 10 5" ∷ []))
    ≡ (codes "> 1 section box 0 0 0 10 10 10 5" ∷ codes "= sections 1" ∷ codes "= ring (1 0 0) (0 0 5 1) (0 1 0) (10 0 5 1) (-1 0 10) (10 10 5 1) (0 -1 10) (0 10 5 1)" ∷ [])
unfolding opened
box_at_5 = refl

accepted_box_at_5 : finding (report false (text_of_lines (codes "section box 0 0 0 10 10 10 5" ∷ []))) ≡ all_accepted
unfolding opened
accepted_box_at_5 = refl

box_at_10 : report true (text_of_lines (codes "section box 0 0 0 10 10 10 10" ∷ []))
    ≡ (codes "> 1 section box 0 0 0 10 10 10 10" ∷ codes "= sections 1" ∷ codes "= flat 1*(0 0 -1 10)" ∷ [])
unfolding opened
box_at_10 = refl

accepted_box_at_10 : finding (report false (text_of_lines (codes "section box 0 0 0 10 10 10 10" ∷ []))) ≡ all_accepted
unfolding opened
accepted_box_at_10 = refl

tetrahedron : report true (text_of_lines (codes "section and half 1 0 0 0 and half 0 1 0 0 and half 0 0 1 0 half -2 -3 -5 7 1" ∷ []))
    ≡ (codes "> 1 section and half 1 0 0 0 and half 0 1 0 0 and half 0 0 1 0 half -2 -3 -5 7 1" ∷ codes "= sections 1" ∷ codes "= ring (1 0 0) (0 0 1 1) (0 1 0) (1 0 1 1) (-2 -3 2) (0 2 3 3)" ∷ [])
unfolding opened
tetrahedron = refl

accepted_tetrahedron : finding (report false (text_of_lines (codes "section and half 1 0 0 0 and half 0 1 0 0 and half 0 0 1 0 half -2 -3 -5 7 1" ∷ []))) ≡ all_accepted
unfolding opened
accepted_tetrahedron = refl

none_there : report true (text_of_lines (codes "section none 16777215" ∷ codes "section all 16777216" ∷ []))
    ≡ (codes "> 1 section none 16777215" ∷ codes "= sections 0" ∷ codes "> 2 section all 16777216" ∷ codes "= refused range" ∷ [])
unfolding opened
none_there = refl

accepted_none_there : finding (report false (text_of_lines (codes "section none 16777215" ∷ codes "section all 16777216" ∷ []))) ≡ all_accepted
unfolding opened
accepted_none_there = refl

whole : finding (codes "> 1 section box 0 0 0 10 10 10 5" ∷ codes "  in (0 0 0 1) (0 0 10 1) (0 10 0 1) (10 0 0 1)" ∷ codes "  box 0 0 0 10 10 10" ∷ codes "= sections 1" ∷ codes "= ring (1 0 0) (0 0 5 1) (0 1 0) (10 0 5 1) (-1 0 10) (10 10 5 1) (0 -1 10) (0 10 5 1)" ∷ []) ≡ all_accepted
unfolding opened
whole = refl

end_changed : finding (codes "> 1 section box 0 0 0 10 10 10 5" ∷ codes "  in (0 0 0 1) (0 0 10 1) (0 10 0 1) (10 0 0 1)" ∷ codes "  box 0 0 0 10 10 10" ∷ codes "= sections 1" ∷ codes "= ring (1 0 0) (0 0 5 1) (0 1 0) (10 0 5 1) (-1 0 10) (10 9 5 1) (0 -1 10) (0 10 5 1)" ∷ []) ≡ wrong_at 5
unfolding opened
end_changed = refl

no_length : finding (codes "> 1 section box 0 0 0 10 10 10 5" ∷ codes "  in (0 0 0 1) (0 0 10 1) (0 10 0 1) (10 0 0 1)" ∷ codes "  box 0 0 0 10 10 10" ∷ codes "= sections 1" ∷ codes "= ring (1 0 0) (0 0 5 1) (0 1 0) (0 0 5 1) (-1 0 10) (10 10 5 1) (0 -1 10) (0 10 5 1)" ∷ []) ≡ wrong_at 5
unfolding opened
no_length = refl

bare_ring : finding (codes "> 1 section box 0 0 0 10 10 10 5" ∷ codes "  in (0 0 0 1) (0 0 10 1) (0 10 0 1) (10 0 0 1)" ∷ codes "  box 0 0 0 10 10 10" ∷ codes "= sections 1" ∷ codes "= ring" ∷ []) ≡ wrong_at 5
unfolding opened
bare_ring = refl

wrong_count : finding (codes "> 1 section box 0 0 0 10 10 10 5" ∷ codes "  in (0 0 0 1) (0 0 10 1) (0 10 0 1) (10 0 0 1)" ∷ codes "  box 0 0 0 10 10 10" ∷ codes "= sections 2" ∷ codes "= ring (1 0 0) (0 0 5 1) (0 1 0) (10 0 5 1) (-1 0 10) (10 10 5 1) (0 -1 10) (0 10 5 1)" ∷ []) ≡ wrong_at 4
unfolding opened
wrong_count = refl

limit_told : finding (codes "> 1 section box 0 0 0 10 10 10 5" ∷ codes "  in (0 0 0 1) (0 0 10 1) (0 10 0 1) (10 0 0 1)" ∷ codes "  box 0 0 0 10 10 10" ∷ codes "= refused limit" ∷ []) ≡ all_accepted
unfolding opened
limit_told = refl

limit_late : finding (codes "> 1 section box 0 0 0 10 10 10 5" ∷ codes "  in (0 0 0 1) (0 0 10 1) (0 10 0 1) (10 0 0 1)" ∷ codes "  box 0 0 0 10 10 10" ∷ codes "= sections 1" ∷ codes "= refused limit" ∷ []) ≡ wrong_at 5
unfolding opened
limit_late = refl

another_flat : finding (codes "> 1 section box 0 0 0 10 10 10 10" ∷ codes "  in (0 0 0 1) (0 0 10 1) (0 10 0 1) (10 0 0 1)" ∷ codes "  box 0 0 0 10 10 10" ∷ codes "= sections 1" ∷ codes "= flat 2*(0 0 -1 10)" ∷ []) ≡ all_accepted
unfolding opened
another_flat = refl

flat_where_ring : finding (codes "> 1 section box 0 0 0 10 10 10 5" ∷ codes "  in (0 0 0 1) (0 0 10 1) (0 10 0 1) (10 0 0 1)" ∷ codes "  box 0 0 0 10 10 10" ∷ codes "= sections 1" ∷ codes "= flat 1*(0 0 -1 10)" ∷ []) ≡ wrong_at 5
unfolding opened
flat_where_ring = refl
