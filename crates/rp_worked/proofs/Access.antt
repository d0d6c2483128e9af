-- Access, by computation.
use Rattle.std.specs.Prelude.{◌≡◌, true, false, [], ◌∷◌, codes, refl}
use Rattle.rp_worked.proofs.Opened.{opened}
use Rattle.rp_reports.specs.Text.{text_of_lines}
use Rattle.rp_reports.specs.Machine.{report}
use Rattle.rp_reports.specs.Check.{finding, all_accepted}

access : report true (text_of_lines (codes "register a box 0 0 0 10 10 10" ∷ codes "register b box 10 0 0 20 10 10" ∷ codes "register c box 20 0 0 30 10 10" ∷ codes "register d box 50 0 0 60 10 10" ∷ codes "access a c" ∷ codes "access a d" ∷ codes "access a a" ∷ codes "access a e" ∷ []))
    ≡ (codes "> 1 register a box 0 0 0 10 10 10" ∷ codes "= ok" ∷ codes "> 2 register b box 10 0 0 20 10 10" ∷ codes "= ok" ∷ codes "> 3 register c box 20 0 0 30 10 10" ∷ codes "= ok" ∷ codes "> 4 register d box 50 0 0 60 10 10" ∷ codes "= ok" ∷ codes "> 5 access a c" ∷ codes "= access 2" ∷ codes "= parcel a" ∷ codes "= parcel b" ∷ codes "= parcel c" ∷ codes "= level 2 a" ∷ codes "= level 1 b" ∷ codes "= level 0 c" ∷ codes "> 6 access a d" ∷ codes "= noaccess" ∷ codes "= level 0 d" ∷ codes "> 7 access a a" ∷ codes "= access 0" ∷ codes "= parcel a" ∷ codes "= level 0 a" ∷ codes "= level 1 b" ∷ codes "= level 2 c" ∷ codes "> 8 access a e" ∷ codes "= refused unknown e" ∷ [])
unfolding opened
access = refl

accepted_access : finding (report false (text_of_lines (codes "register a box 0 0 0 10 10 10" ∷ codes "register b box 10 0 0 20 10 10" ∷ codes "register c box 20 0 0 30 10 10" ∷ codes "register d box 50 0 0 60 10 10" ∷ codes "access a c" ∷ codes "access a d" ∷ codes "access a a" ∷ codes "access a e" ∷ []))) ≡ all_accepted
unfolding opened
accepted_access = refl
