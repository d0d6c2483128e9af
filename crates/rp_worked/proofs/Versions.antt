-- Scripts of the second version, by computation.
use Rattle.std.specs.Prelude.{◌≡◌, true, false, [], ◌∷◌, codes, refl}
use Rattle.rp_worked.proofs.Opened.{opened}
use Rattle.rp_reports.specs.Text.{text_of_lines}
use Rattle.rp_reports.specs.Machine.{report}
use Rattle.rp_reports.specs.Check.{finding, all_accepted, wrong_at}
use Rattle.rp_reports.specs.Upgrade.{upgraded_script}
use Rattle.rp_reports.specs.Output.{spelled_script}

upgraded : upgraded_script (text_of_lines (codes "member box 0 0 0 10 10 10 5 3 5 9" ∷ codes "walk" ∷ [])) ≡ (codes "rp 2" ∷ codes "member box 0.000 0.000 0.000 0.010 0.010 0.010 0.005 0.003 0.005 9" ∷ [] ∷ [])
unfolding opened
upgraded = refl

member2 : report false (text_of_lines (codes "rp 2" ∷ codes "member box 0.000 0.000 0.000 0.010 0.010 0.010 0.005 0.003 0.005 9" ∷ []))
    ≡ (codes "> 0 rp 2" ∷ codes "> 1 member box 0.000 0.000 0.000 0.010 0.010 0.010 0.005 0.003 0.005 9" ∷ codes "= yes" ∷ [])
unfolding opened
member2 = refl

accepted_member2 : finding (report false (text_of_lines (codes "rp 2" ∷ codes "member box 0.000 0.000 0.000 0.010 0.010 0.010 0.005 0.003 0.005 9" ∷ []))) ≡ all_accepted
unfolding opened
accepted_member2 = refl

show2 : report true (text_of_lines (codes "rp 2" ∷ codes "show box -0.001 0.000 0.000 0.001 0.002 0.003" ∷ []))
    ≡ (codes "> 0 rp 2" ∷ codes "> 1 show box -0.001 0.000 0.000 0.001 0.002 0.003" ∷ codes "= parts 1" ∷ codes "= part (1 0 0 1) (-1 0 0 1) (0 1 0 0) (0 -1 0 2) (0 0 1 0) (0 0 -1 3)" ∷ [])
unfolding opened
show2 = refl

accepted_show2 : finding (report false (text_of_lines (codes "rp 2" ∷ codes "show box -0.001 0.000 0.000 0.001 0.002 0.003" ∷ []))) ≡ all_accepted
unfolding opened
accepted_show2 = refl

bad2 : report true (text_of_lines (codes "rp 2" ∷ codes "member all 5 0.000 0.000 1" ∷ codes "member all -0.000 0.000 0.000 1" ∷ codes "empty box 0.000 0.000 0.000 16777.217 0.001 0.001" ∷ []))
    ≡ (codes "> 0 rp 2" ∷ codes "> 1 member all 5 0.000 0.000 1" ∷ codes "= refused syntax" ∷ codes "> 2 member all -0.000 0.000 0.000 1" ∷ codes "= refused syntax" ∷ codes "> 3 empty box 0.000 0.000 0.000 16777.217 0.001 0.001" ∷ codes "= refused range" ∷ [])
unfolding opened
bad2 = refl

accepted_bad2 : finding (report false (text_of_lines (codes "rp 2" ∷ codes "member all 5 0.000 0.000 1" ∷ codes "member all -0.000 0.000 0.000 1" ∷ codes "empty box 0.000 0.000 0.000 16777.217 0.001 0.001" ∷ []))) ≡ all_accepted
unfolding opened
accepted_bad2 = refl

spelled2 : spelled_script (text_of_lines (codes "rp 2" ∷ codes "# note" ∷ codes "member all 0.010 0.000 -0.020 10" ∷ [])) ≡ (codes "rp 2" ∷ codes "member all 0.001 0.000 -0.002 1" ∷ [])
unfolding opened
spelled2 = refl

-- in the first version the line is no command, and a report of it is wrong at the mark
mark1 : finding (codes "> 1 rp 2" ∷ codes "= refused syntax" ∷ []) ≡ all_accepted
unfolding opened
mark1 = refl

only_mark : finding (codes "> 0 rp 2" ∷ []) ≡ all_accepted
unfolding opened
only_mark = refl

wrong2 : finding (codes "> 0 rp 2" ∷ codes "> 1 member box 0.000 0.000 0.000 0.010 0.010 0.010 0.005 0.003 0.005 9" ∷ codes "= no" ∷ []) ≡ wrong_at 3
unfolding opened
wrong2 = refl
