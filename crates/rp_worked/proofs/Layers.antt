-- Layers: scripts and their whole reports, and what the check finds in some, by computation.
use Rattle.std.specs.Prelude.{◌≡◌, ℕ, true, false, List, [], ◌∷◌, codes, refl}
use Rattle.rp_worked.proofs.Opened.{opened}
use Rattle.rp_reports.specs.Text.{text_of_lines}
use Rattle.rp_reports.specs.Machine.{report}
use Rattle.rp_reports.specs.Check.{finding, all_accepted, wrong_at}

-- lines, each with its line end
abbrev text : List (List ℕ) → List ℕ
text lines = text_of_lines lines

layers : report true (text (codes "register a box 0 0 0 10 10 10" ∷ codes "layer rights" ∷ codes "register r box 5 0 0 15 10 10" ∷ codes "at 7 5 5 1" ∷ codes "asof 1 7 5 5 1" ∷ codes "layer base" ∷ codes "at 7 5 5 1" ∷ codes "consolidate c 2 a r" ∷ codes "list" ∷ codes "audit" ∷ []))
    ≡ (codes "> 1 register a box 0 0 0 10 10 10" ∷ codes "= ok" ∷ codes "> 2 layer rights" ∷ codes "= ok" ∷ codes "> 3 register r box 5 0 0 15 10 10" ∷ codes "= ok" ∷ codes "> 4 at 7 5 5 1" ∷ codes "= parcel r" ∷ codes "> 5 asof 1 7 5 5 1" ∷ codes "= nobody" ∷ codes "> 6 layer base" ∷ codes "= ok" ∷ codes "> 7 at 7 5 5 1" ∷ codes "= parcel a" ∷ codes "> 8 consolidate c 2 a r" ∷ codes "= refused layers r" ∷ codes "> 9 list" ∷ codes "= parcels 2" ∷ codes "= lot a born 1 live" ∷ codes "= lot r born 3 live layer rights" ∷ codes "> 10 audit" ∷ codes "= clear 2" ∷ [])
unfolding opened
layers = refl

descendants : report true (text (codes "register p box 0 0 0 10 10 10" ∷ codes "layer from" ∷ codes "register q box 10 0 0 20 10 10" ∷ codes "register p box 0 0 0 1 1 1" ∷ codes "register s box 0 0 0 10 10 10" ∷ codes "cut s half 1 0 0 -5 t u" ∷ codes "neighbours t" ∷ codes "neighbours p" ∷ codes "layer base" ∷ codes "register v box 2 0 0 3 1 1" ∷ codes "consolidate w 2 t u" ∷ codes "history w" ∷ codes "at 12 5 5 1" ∷ codes "layer x y" ∷ codes "layer" ∷ []))
    ≡ (codes "> 1 register p box 0 0 0 10 10 10" ∷ codes "= ok" ∷ codes "> 2 layer from" ∷ codes "= ok" ∷ codes "> 3 register q box 10 0 0 20 10 10" ∷ codes "= ok" ∷ codes "> 4 register p box 0 0 0 1 1 1" ∷ codes "= refused known p" ∷ codes "> 5 register s box 0 0 0 10 10 10" ∷ codes "= ok" ∷ codes "> 6 cut s half 1 0 0 -5 t u" ∷ codes "= ok" ∷ codes "> 7 neighbours t" ∷ codes "= neighbours 2" ∷ codes "= parcel q" ∷ codes "= parcel u" ∷ codes "> 8 neighbours p" ∷ codes "= neighbours 0" ∷ codes "> 9 layer base" ∷ codes "= ok" ∷ codes "> 10 register v box 2 0 0 3 1 1" ∷ codes "= refused overlaps p" ∷ codes "> 11 consolidate w 2 t u" ∷ codes "= ok" ∷ codes "> 12 history w" ∷ codes "= lots 4" ∷ codes "= lot s born 5 ended 6 layer from" ∷ codes "= lot t born 6 ended 11 layer from from s" ∷ codes "= lot u born 6 ended 11 layer from from s" ∷ codes "= lot w born 11 live layer from from t u" ∷ codes "> 13 at 12 5 5 1" ∷ codes "= nobody" ∷ codes "> 14 layer x y" ∷ codes "= refused syntax" ∷ codes "> 15 layer" ∷ codes "= refused syntax" ∷ [])
unfolding opened
descendants = refl

layers_accepted : finding (report false (text (codes "register a box 0 0 0 10 10 10" ∷ codes "layer rights" ∷ codes "register r box 5 0 0 15 10 10" ∷ codes "at 7 5 5 1" ∷ codes "asof 1 7 5 5 1" ∷ codes "layer base" ∷ codes "at 7 5 5 1" ∷ codes "consolidate c 2 a r" ∷ codes "list" ∷ codes "audit" ∷ []))) ≡ all_accepted
unfolding opened
layers_accepted = refl

layer_ok : finding (codes "> 1 layer a" ∷ codes "= ok" ∷ []) ≡ all_accepted
unfolding opened
layer_ok = refl

-- no limit may stand for a layer
layer_limit : finding (codes "> 1 layer a" ∷ codes "= refused limit" ∷ []) ≡ wrong_at 2
unfolding opened
layer_limit = refl

layer_syntax : finding (codes "> 1 layer a" ∷ codes "= refused syntax" ∷ []) ≡ wrong_at 2
unfolding opened
layer_syntax = refl
