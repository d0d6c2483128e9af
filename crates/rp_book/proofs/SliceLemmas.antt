-- The lines of an act are a slice of the script.
use Rattle.std.proofs.Common.{◌≡◌, ℕ, zero, suc, ◌+◌, ◌-◌, ◌<◌, ◌≤◌, List, [], ◌∷◌, ◌++◌, length, map, take, drop, Option, None, Some, Bor, refl, sym, ap, subst, ◌∙◌, arith, append_assoc, length-append}
use Rattle.std.specs.Prelude.{option_map, slice_get, slice_index, slice_index_or}
use Rattle.std.specs.List.{flat_map, slice_range}
use Rattle.std.specs.Slice.{IsGetRangeResult, IsItemAt}
use Rattle.std.proofs.Math.Seq.{take-append_seam, drop-append_seam}
use Rattle.std.proofs.lemmas.List.{length-map}
use Rattle.std.proofs.lemmas.Option.{slice_get_past, slice_get_read, slice_get-map}
use Rattle.rp_book.specs.declared.act.Act.{Act}
use Rattle.rp_book.specs.Act.{Told, AreActs, HasActs, HasNumbers, act_of, lines_from, start_at}

-- the bytes between two lengths are those of the lines in between
pub slice-middle : (script before lines more : List ℕ) → script ≡ before ++ (lines ++ more) → slice_range script (length before) (length (before ++ lines)) ≡ lines
slice-middle script before lines more e =
    let long : length (before ++ lines) - length before ≡ length lines = omega (arith, length-append before lines) in
    ap (λ s. slice_range s (length before) (length (before ++ lines))) e
    ∙ ap (λ rest. take (length (before ++ lines) - length before) rest) (drop-append_seam before (lines ++ more))
    ∙ ap (λ n. take n (lines ++ more)) long ∙ take-append_seam lines more

-- the slice that the act at a place has of a script, where the lines of the first act begin at a byte
pub record IsSlice (script : List ℕ) (start : ℕ) (acts : List Told) (lines : List (List ℕ)) (place : ℕ) (act : Told) : Type 0 where
  pub is : slice_get lines place ≡ Some (slice_range script (slice_index (start ∷ map (λ a. a.end) acts) place) act.end)
  pub ordered : slice_index (start ∷ map (λ a. a.end) acts) place ≤ act.end
  pub within : act.end ≤ length script

is-slice : (script before : List ℕ) (acts : List Told) (lines : List (List ℕ)) (place : ℕ) (act : Told) → AreActs before acts lines → script ≡ before ++ flat_map (λ ls. ls) lines → slice_get acts place ≡ Some act
    → IsSlice script (length before) acts lines place act
is-slice script before [] lines place act h e found = absurd (cc)
is-slice script before (a ∷ acts) [] place act h e found = absurd h
is-slice script before (a ∷ acts) (ls ∷ more) zero act h e found =
    let same : a ≡ act = cc in
    let rest = flat_map (λ l. l) more in
    let end : act.end ≡ length (before ++ ls) = ap (λ (t : Told). t.end) (sym same) ∙ h.0.end in
    let long : length script ≡ length before + (length ls + length rest) = ap length e ∙ length-append before (ls ++ rest) ∙ ap (λ n. length before + n) (length-append ls rest) in
    record {
      is = ap Some (sym (slice-middle script before ls rest e) ∙ ap (λ n. slice_range script (length before) n) (sym end));
      ordered = omega (arith, end, length-append before ls);
      within = omega (arith, end, length-append before ls, long);
    }
is-slice script before (a ∷ acts) (ls ∷ more) (suc place) act h e found =
    let whole : script ≡ (before ++ ls) ++ flat_map (λ l. l) more = e ∙ sym (append_assoc before ls (flat_map (λ l. l) more)) in
    let later = is-slice script (before ++ ls) acts more place act h.1 whole found in
    let from : IsSlice script a.end acts more place act = subst (λ n. IsSlice script n acts more place act) (sym h.0.end) later in
    record { is = from.is; ordered = from.ordered; within = from.within }

-- there are as many acts as there are lists of lines
AreActs-length : (before : List ℕ) (acts : List Told) (lines : List (List ℕ)) → AreActs before acts lines → length acts ≡ length lines
AreActs-length before [] [] h = refl
AreActs-length before [] (ls ∷ more) h = absurd h
AreActs-length before (a ∷ acts) [] h = absurd h
AreActs-length before (a ∷ acts) (ls ∷ more) h = ap suc (AreActs-length (before ++ ls) acts more h.1)

-- the place of no act has no lines
pub no-lines : (script : List ℕ) (acts : List Act) (place : ℕ) (h : HasActs script (map act_of acts)) → IsItemAt acts place None → slice_get h.lines place ≡ None
no-lines script acts place h past = slice_get_past h.lines place (omega (arith, past.3, length-map acts act_of, AreActs-length [] (map act_of acts) h.lines h.numbers))

-- the slice from the end of the act before to the end of an act has its lines
pub found-lines : (script : List ℕ) (acts : List Act) (place : ℕ) (act : Act) (r : Option (Bor (List ℕ))) (h : HasActs script (map act_of acts)) → place < length acts → act ≡ slice_index_or acts place act
    → IsGetRangeResult script (start_at (map act_of acts) place) act.end r → option_map (λ lines. lines.now) r ≡ slice_get h.lines place
found-lines script acts place act r h within is found =
    let told : slice_get (map act_of acts) place ≡ Some (act_of act) = slice_get-map act_of acts place ∙ ap (option_map act_of) (slice_get_read acts (length acts) place act refl within is) in
    go r found (is-slice script [] (map act_of acts) h.lines place (act_of act) h.numbers h.whole told)
  where
    go : (r : Option (Bor (List ℕ))) → IsGetRangeResult script (start_at (map act_of acts) place) act.end r → IsSlice script 0 (map act_of acts) h.lines place (act_of act)
        → option_map (λ lines. lines.now) r ≡ slice_get h.lines place
    go None found slice = let some = found.1 (slice.ordered, slice.within) in absurd (cc)
    go (Some lines) found slice = ap Some found.0.2 ∙ sym slice.is

-- how many bytes come before the lines of an act that is not the first
pub start_at-later : (acts : List Act) (place : ℕ) (act : Act) → 0 < place → place ≤ length acts → (slice_index_or acts (place - 1) act).end ≡ start_at (map act_of acts) place
start_at-later acts zero act later within = absurd (omega (arith, later))
start_at-later acts (suc place) act later within =
    let step : suc place - 1 ≡ place = omega arith in
    ap (λ k. (slice_index_or acts k act).end) step ∙ go acts place (omega (arith, within))
  where
    go : (acts : List Act) (place : ℕ) → place < length acts → (slice_index_or acts place act).end ≡ slice_index (map (λ a. a.end) (map act_of acts)) place
    go [] place within = absurd (omega (arith, within))
    go (a ∷ acts) zero within = refl
    go (a ∷ acts) (suc place) within = go acts place (omega (arith, within))

-- the lines of the acts are determined by the ends of the acts
AreActs-lines : (script before : List ℕ) (acts : List Told) (lines : List (List ℕ)) → AreActs before acts lines → script ≡ before ++ flat_map (λ ls. ls) lines → lines ≡ lines_from script (length before) acts
AreActs-lines script before [] [] h e = refl
AreActs-lines script before [] (ls ∷ more) h e = absurd h
AreActs-lines script before (a ∷ acts) [] h e = absurd h
AreActs-lines script before (a ∷ acts) (ls ∷ more) h e =
    let rest = flat_map (λ l. l) more in
    let whole : script ≡ (before ++ ls) ++ rest = e ∙ sym (append_assoc before ls rest) in
    let later : more ≡ lines_from script a.end acts = AreActs-lines script (before ++ ls) acts more h.1 whole ∙ ap (λ n. lines_from script n acts) (sym h.0.end) in
    let first : ls ≡ slice_range script (length before) a.end = sym (slice-middle script before ls rest e) ∙ ap (λ n. slice_range script (length before) n) (sym h.0.end) in
    ap (λ l. l ∷ more) first ∙ ap (λ ls. slice_range script (length before) a.end ∷ ls) later

-- the lines of the acts of a script are its slices
pub HasActs-lines : (script : List ℕ) (acts : List Told) (h : HasActs script acts) → h.lines ≡ lines_from script 0 acts
HasActs-lines script acts h = AreActs-lines script [] acts h.lines h.numbers h.whole

-- what is the lines of an act is its slice of the script
pub slice_by_ends : (script : List ℕ) (acts : List Told) (place : ℕ) (found : Option (List ℕ)) → ((h : HasActs script acts) → found ≡ slice_get h.lines place) → HasActs script acts → found ≡ slice_get (lines_from script 0 acts) place
slice_by_ends script acts place found is h = is h ∙ ap (λ lines. slice_get lines place) (HasActs-lines script acts h)
