-- The script of a building, from one line to the next, and what was put of it.
use Rattle.std.proofs.Common.{◌≡◌, ℕ, zero, suc, ◌+◌, ◌*◌, ◌-◌, ◌<◌, List, [], ◌∷◌, ◌++◌, length, Option, refl, sym, ap, ◌∙◌, subst, append_assoc, arith}
use Rattle.std.proofs.lemmas.List.{append-nil}
use Rattle.std.proofs.lemmas.List.Concat.{flat_map-append}
use Rattle.rp_io.specs.Bytes.{Appends, AppendsPrefix}
use Rattle.rp_reports.specs.Made.{building_lines, made_script, next_seed}
use Rattle.rp_reports.specs.Text.{text_of_lines, line_end}
use Rattle.rp_scripts.specs.declared.made.MadeLine.TheVariants.{Register}
use Rattle.rp_scripts.specs.declared.made.Stage.TheVariants.{Registered}
use Rattle.rp_scripts.specs.Made.{made_line, lines_to_come}
use Rattle.rp_scripts.proofs.SinkLemmas.{Appends-append, Appends-nothing, AppendsPrefix-line, AppendsPrefix-lines}

-- the next storey is registered first
pub building_lines-next : (n i seed : ℕ) → 0 < n → building_lines n i seed ≡ made_line (Register i) ∷ lines_to_come Registered i (n - 1) seed
building_lines-next zero i seed h = absurd (omega arith)
building_lines-next (suc n) i seed h =
    let one : n ≡ suc n - 1 = omega arith in ap (λ (m : ℕ). made_line (Register i) ∷ lines_to_come Registered i m seed) one

-- a storey has three lines, and two stand behind all
length-building : (n i seed : ℕ) → length (building_lines n i seed) ≡ 3 * n + 2
length-building zero i seed = refl
length-building (suc n) i seed = omega (arith, length-building n (i + 1) (next_seed (next_seed seed)))

-- the script has as many lines
pub length-made : (n seed : ℕ) → length (made_script n seed) ≡ 3 * n + 2
unfolding made_script
length-made n seed = length-building n 0 seed

-- what was put of all lines, and what is left of them
pub record HasMade (all : List (List ℕ)) (old now : Option (List ℕ)) (left : List (List ℕ)) : Type 0 where
  pub told : List (List ℕ)
  pub text : Appends old now (text_of_lines told)
  pub goes_on : told ++ left ≡ all

-- at the start nothing was put
pub HasMade-start : (all : List (List ℕ)) (said : Option (List ℕ)) (left : List (List ℕ)) → left ≡ all → HasMade all said said left
HasMade-start all said left e = record { told = []; text = Appends-nothing said; goes_on = e }

-- one more line
pub HasMade-more : (all : List (List ℕ)) (old now new : Option (List ℕ)) (left behind : List (List ℕ)) (line : List ℕ) → HasMade all old now left → left ≡ line ∷ behind
    → Appends now new (line ++ line_end ∷ []) → HasMade all old new behind
HasMade-more all old now new left behind line h e put =
    let text : text_of_lines (h.told ++ line ∷ []) ≡ text_of_lines h.told ++ (line ++ line_end ∷ []) =
    flat_map-append (λ l. l ++ line_end ∷ []) h.told (line ∷ []) ∙ ap (λ xs. text_of_lines h.told ++ xs) (append-nil (line ++ line_end ∷ [])) in
    record {
      told = h.told ++ line ∷ [];
      text = subst (Appends old new) (sym text) (Appends-append old now new (text_of_lines h.told) (line ++ line_end ∷ []) h.text put);
      goes_on = append_assoc h.told (line ∷ []) behind ∙ ap (λ (ls : List (List ℕ)). h.told ++ ls) (sym e) ∙ h.goes_on;
    }

-- at the end all was put
pub HasMade-end : (all : List (List ℕ)) (old now : Option (List ℕ)) (left : List (List ℕ)) → HasMade all old now left → left ≡ [] → Appends old now (text_of_lines all)
HasMade-end all old now left h e =
    let whole : h.told ≡ all = sym (append-nil h.told) ∙ ap (λ (ls : List (List ℕ)). h.told ++ ls) (sym e) ∙ h.goes_on in
    subst (λ (ls : List (List ℕ)). Appends old now (text_of_lines ls)) whole h.text

-- where a line was not put whole, a front of all was put
pub HasMade-front : (all : List (List ℕ)) (old now new : Option (List ℕ)) (left behind : List (List ℕ)) (line : List ℕ) → HasMade all old now left → left ≡ line ∷ behind
    → AppendsPrefix now new (line ++ line_end ∷ []) → AppendsPrefix old new (text_of_lines all)
HasMade-front all old now new left behind line h e put =
    AppendsPrefix-lines old now new h.told (line ∷ []) behind all h.text (AppendsPrefix-line now new line put) (ap (λ (ls : List (List ℕ)). h.told ++ ls) (sym e) ∙ h.goes_on)
