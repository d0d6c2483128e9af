-- The reports of worked scripts are accepted by the check.
use Rattle.std.specs.Prelude.{◌≡◌, ℕ, true, false, List, [], ◌∷◌, codes, refl}
use Rattle.rp_worked.proofs.Opened.{opened}
use Rattle.rp_reports.specs.Text.{text_of_lines}
use Rattle.rp_reports.specs.Machine.{report}
use Rattle.rp_reports.specs.Check.{finding, all_accepted}

-- lines, each with its line end
abbrev text : List (List ℕ) → List ℕ
text lines = text_of_lines lines

union_in_box : report true (text (codes "let x = or box 0 0 0 10 10 10 box 10 0 0 20 5 10" ∷ codes "equal not not name x name x" ∷ codes "within name x box 0 0 0 20 10 10" ∷ []))
    ≡ (codes "> 1 let x = or box 0 0 0 10 10 10 box 10 0 0 20 5 10" ∷ codes "= ok" ∷ codes "> 2 equal not not name x name x" ∷ codes "= yes" ∷ codes "> 3 within name x box 0 0 0 20 10 10" ∷ codes "= yes" ∷ [])
unfolding opened
union_in_box = refl

accepted_union_in_box : finding (report false (text (codes "let x = or box 0 0 0 10 10 10 box 10 0 0 20 5 10" ∷ codes "equal not not name x name x" ∷ codes "within name x box 0 0 0 20 10 10" ∷ []))) ≡ all_accepted
unfolding opened
accepted_union_in_box = refl

accepted_nonempty_box : finding (report false (text (codes "empty box 0 0 0 10 10 10" ∷ []))) ≡ all_accepted
unfolding opened
accepted_nonempty_box = refl

accepted_flat_box : finding (report false (text (codes "empty box 0 0 0 0 10 10" ∷ []))) ≡ all_accepted
unfolding opened
accepted_flat_box = refl

accepted_shared_face : finding (report false (text (codes "overlap box 0 0 0 10 10 10 box 10 0 0 20 10 10" ∷ []))) ≡ all_accepted
unfolding opened
accepted_shared_face = refl

accepted_touching : finding (report false (text (codes "rcc box 0 0 0 10 10 10 box 10 0 0 20 10 10" ∷ []))) ≡ all_accepted
unfolding opened
accepted_touching = refl

accepted_apart : finding (report false (text (codes "rcc box 0 0 0 10 10 10 box 11 0 0 21 10 10" ∷ []))) ≡ all_accepted
unfolding opened
accepted_apart = refl

accepted_pieces : finding (report false (text (codes "pieces or box 0 0 0 10 10 10 box 11 11 11 21 21 21" ∷ codes "pieces or box 0 0 0 10 10 10 box 10 10 10 20 20 20" ∷ []))) ≡ all_accepted
unfolding opened
accepted_pieces = refl

accepted_relations : finding (report false (text (codes "rcc box 0 0 0 5 5 5 box 0 0 0 10 10 10" ∷ codes "rcc box 1 1 1 9 9 9 box 0 0 0 10 10 10" ∷ codes "rcc box 0 0 0 10 10 10 box 1 1 1 9 9 9" ∷ codes "rcc box -16777216 0 0 0 10 10 all" ∷ codes "rcc box 0 0 0 10 10 10 box 5 0 0 15 10 10" ∷ codes "rcc none all" ∷ []))) ≡ all_accepted
unfolding opened
accepted_relations = refl

accepted_whole_cube : finding (report false (text (codes "empty half 0 0 0 1" ∷ []))) ≡ all_accepted
unfolding opened
accepted_whole_cube = refl

accepted_registering : finding (report false (text (codes "register a box 0 0 0 10 10 10" ∷ codes "register b box 5 0 0 15 10 10" ∷ codes "register b box 10 0 0 20 10 10" ∷ codes "register a box 30 0 0 40 10 10" ∷ codes "retire a" ∷ codes "register a box 30 0 0 40 10 10" ∷ codes "list" ∷ codes "at 10 5 5 1" ∷ codes "at 5 5 5 1" ∷ codes "audit" ∷ codes "register e none" ∷ []))) ≡ all_accepted
unfolding opened
accepted_registering = refl

accepted_cut_and_joined : finding (report false (text (codes "register p box 0 0 0 10 10 10" ∷ codes "cut p half 1 1 0 -10 east west" ∷ codes "at 5 5 5 1" ∷ codes "at 4 5 5 1" ∷ codes "consolidate q 2 east west" ∷ codes "equal lot q box 0 0 0 10 10 10" ∷ codes "asof 1 5 5 5 1" ∷ codes "asof 2 5 5 5 1" ∷ codes "history q" ∷ []))) ≡ all_accepted
unfolding opened
accepted_cut_and_joined = refl

accepted_refused_children : finding (report false (text (codes "register p box 0 0 0 10 10 10" ∷ codes "subdivide p 2 a box 0 0 0 4 10 10 b box 5 0 0 10 10 10" ∷ codes "subdivide p 2 a box 0 0 0 6 10 10 b box 5 0 0 10 10 10" ∷ codes "subdivide p 2 a box 0 0 0 5 10 10 b box 5 0 0 11 10 10" ∷ codes "subdivide p 2 a box 0 0 0 5 10 10 b box 5 0 0 5 10 10" ∷ codes "subdivide p 1 a box 0 0 0 10 10 10" ∷ codes "subdivide p 2 a box 0 0 0 5 10 10 a box 5 0 0 10 10 10" ∷ codes "cut p all a b" ∷ codes "cut p none a b" ∷ codes "cut p all a a" ∷ codes "subdivide p 2 a box 0 0 0 5 10 10 b box 5 0 0 10 10 10" ∷ codes "retire p" ∷ []))) ≡ all_accepted
unfolding opened
accepted_refused_children = refl

accepted_building : finding (report false (text (codes "register s0 box 0 0 0 60000 40000 3000" ∷ codes "cut s0 half 1 6 0 -150000 s0a s0b" ∷ codes "neighbours s0a" ∷ codes "audit" ∷ codes "list" ∷ []))) ≡ all_accepted
unfolding opened
accepted_building = refl

accepted_names_and_lots : finding (report false (text (codes "let a = box 0 0 0 1 1 1" ∷ codes "let a = all" ∷ codes "empty name a" ∷ codes "empty name b" ∷ codes "show lot a" ∷ codes "show all" ∷ codes "history a" ∷ []))) ≡ all_accepted
unfolding opened
accepted_names_and_lots = refl
