-- The entries of a log from an act on, and their texts.
use Rattle.std.proofs.Common.{◌≡◌, inl, inr, ℕ, zero, suc, ◌+◌, ◌-◌, ◌≤◌, List, [], ◌∷◌, ◌++◌, drop, length, map, take, refl, ap, ap₂, subst, sym, ◌∙◌, append_assoc, arith}
use Rattle.std.specs.Prelude.{All, flat_map, max, min, slice_index}
use Rattle.std.specs.List.{slice_range}
use Rattle.std.proofs.lemmas.Bool.{cases_lt}
use Rattle.std.proofs.lemmas.List.{drop_all, length-drop, length-map, take_all}
use Rattle.std.proofs.lemmas.List.Elements.{All-cons}
use Rattle.rp_book.specs.Act.{Told, act_of, start_at}
use Rattle.rp_book.specs.declared.act.Act.{Act}
use Rattle.rp_seal_text.specs.ActText.{IsActText, act_text}
use Rattle.rp_sealed_book.specs.Log.{entries_from, entry_at, log_of}

-- the texts of the other acts of a script come after a text, and together they are a whole
abbrev pub AreWritten : List ℕ → List ℕ → List ℕ → ℕ → ℕ → List Act → Type 0
AreWritten whole script text number start rest = text ++ flat_map act_text (entries_from script number start (map act_of rest)) ≡ whole

-- the text of the next act comes to the end of a text
pub written-next : (whole script text new : List ℕ) (rest more : List Act) (act : Act) (number next start : ℕ)
    → rest ≡ act ∷ more → next ≡ number + 1 → new ≡ text ++ act_text (entry_at number (slice_range script start act.end) (act_of act))
    → AreWritten whole script text number start rest → AreWritten whole script new next act.end more
written-next whole script text new rest more act number next start is_rest is_next is_new kept =
    let first : List ℕ = act_text (entry_at number (slice_range script start act.end) (act_of act)) in
    let others : List ℕ = flat_map act_text (entries_from script (number + 1) act.end (map act_of more)) in
    let before : text ++ (first ++ others) ≡ whole = subst (λ r. AreWritten whole script text number start r) is_rest kept in
    ap₂ (λ (t : List ℕ) (n : ℕ). t ++ flat_map act_text (entries_from script n act.end (map act_of more))) is_new is_next
    ∙ append_assoc text first others ∙ before

-- the entry of the next act fits a text, and so do those of all acts if those of the other acts do
pub valid-next : (script : List ℕ) (rest more : List Act) (act : Act) (number next start : ℕ) (P : Type 0)
    → rest ≡ act ∷ more → next ≡ number + 1 → IsActText (entry_at number (slice_range script start act.end) (act_of act))
    → (All IsActText (entries_from script number start (map act_of rest)) → P) → All IsActText (entries_from script next act.end (map act_of more)) → P
valid-next script rest more act number next start P is_rest is_next valid kept others =
    kept (subst (λ r. All IsActText (entries_from script number start (map act_of r))) (sym is_rest)
    (All-cons IsActText _ _ valid (subst (λ n. All IsActText (entries_from script n act.end (map act_of more))) is_next others)))

-- the entries from a place on are those of the acts from the place on
entries-from-place : (script : List ℕ) (number start : ℕ) (acts : List Act) (place : ℕ) → place ≤ length acts
    → drop place (entries_from script number start (map act_of acts))
    ≡ entries_from script (number + place) (slice_index (start ∷ map (λ a. a.end) (map act_of acts)) place) (map act_of (drop place acts))
entries-from-place script number start acts zero within =
    ap (λ n. entries_from script n start (map act_of acts)) (let e : number ≡ number + zero = omega arith in e)
entries-from-place script number start [] (suc place) within = absurd (omega (arith, within))
entries-from-place script number start (a ∷ acts) (suc place) within =
    let step : number + 1 + place ≡ number + suc place = omega arith in
    entries-from-place script (number + 1) a.end acts place (omega (arith, within))
    ∙ ap (λ n. entries_from script n (slice_index (a.end ∷ map (λ b. b.end) (map act_of acts)) place) (map act_of (drop place acts))) step

-- there are as many entries as acts
pub length-entries : (script : List ℕ) (number start : ℕ) (acts : List Told) → length (entries_from script number start acts) ≡ length acts
length-entries script number start [] = refl
length-entries script number start (a ∷ acts) = ap suc (length-entries script (number + 1) a.end acts)

-- the entries from the one with a number on are those of the acts from the place of the number on, and none if there is no such place
pub entries-since : (script : List ℕ) (acts : List Act) (from number place start : ℕ) → number ≡ max from 1 → place ≡ min (number - 1) (length acts) → start ≡ start_at (map act_of acts) place
    → entries_from script number start (map act_of (take (length acts - place) (drop place acts))) ≡ drop (from - 1) (log_of script (map act_of acts))
entries-since script acts from number place start is_number is_place is_start =
    let rest : take (length acts - place) (drop place acts) ≡ drop place acts = take_all (length acts - place) (drop place acts) (omega (arith, length-drop place acts)) in
    ap (λ r. entries_from script number start (map act_of r)) rest
    ∙ elim (cases_lt (length acts) (number - 1)) [
      | inl past ↦
          let none : drop place acts ≡ [] = drop_all place acts (omega arith) in
          let no_entries : drop (from - 1) (log_of script (map act_of acts)) ≡ [] =
          drop_all (from - 1) (log_of script (map act_of acts)) (omega (arith, length-entries script 1 0 (map act_of acts), length-map acts act_of)) in
          ap (λ r. entries_from script number start (map act_of r)) none ∙ sym no_entries
      | inr within ↦
          let same : place ≡ from - 1 = omega arith in
          let numbered : number ≡ 1 + place = omega arith in
          ap₂ (λ (n s : ℕ). entries_from script n s (map act_of (drop place acts))) numbered is_start
          ∙ sym (entries-from-place script 1 0 acts place (omega arith))
          ∙ ap (λ k. drop k (log_of script (map act_of acts))) same
    ]
