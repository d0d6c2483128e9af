-- Echo lines: what stands before and behind the first space.
use Rattle.std.proofs.Common.{◌≡◌, ℕ, zero, suc, ◌+◌, ◌-◌, ◌<◌, ◌≤◌, Bool, true, false, ◌==◌, List, [], ◌∷◌, length, take, drop, get_or, Option, Some, None, refl, sym, ap, ◌∙◌, arith}
use Rattle.std.specs.Prelude.{codes, IfSome, option_map, option_and_then}
use Rattle.std.specs.List.{position}
use Rattle.std.proofs.lemmas.List.{drop-drop, length-drop}
use Rattle.std.proofs.lemmas.List.Quantifiers.{position-Some}
use Rattle.rp_algebra.proofs.Options.{some_if}
use Rattle.rp_language.specs.Name.{label_eq}
use Rattle.rp_language.specs.Grammar.{space}
use Rattle.rp_language.proofs.Places.{all_fail-at_none}
use Rattle.rp_reports.specs.ProofText.{line_number, Split, split_at_space, Echo, echo_after_mark, echo_read}
use Rattle.rp_text.specs.Readers.{kept_if, behind, echo_of}

-- ---- the first space

-- the first byte is a space
split_here : (b : ℕ) (bs : List ℕ) → (b == space) ≡ true → split_at_space (b ∷ bs) ≡ record { word = []; rest = Some bs }
split_here b bs e = ap (λ (t : Bool). elim t as (λ _. Split) [ true ↦ record { word = []; rest = Some bs } | false ↦ record { word = b ∷ (split_at_space bs).word; rest = (split_at_space bs).rest } ]) e

-- the first byte is no space
split_later : (b : ℕ) (bs : List ℕ) (s : Split) → (b == space) ≡ false → split_at_space bs ≡ s → split_at_space (b ∷ bs) ≡ record { word = b ∷ s.word; rest = s.rest }
split_later b bs s e h =
    ap (λ (t : Bool). elim t as (λ _. Split) [ true ↦ record { word = []; rest = Some bs } | false ↦ record { word = b ∷ (split_at_space bs).word; rest = (split_at_space bs).rest } ]) e
    ∙ ap (λ (k : Split). record { word = b ∷ k.word; rest = k.rest }) h

-- the bytes before and after the first space, by its place
split_at : (bs : List ℕ) (i : ℕ) → i < length bs → (get_or bs i 0 == space) ≡ true → ((k : ℕ) → k < i → (get_or bs k 0 == space) ≡ false) → split_at_space bs ≡ record { word = take i bs; rest = Some (drop (i + 1) bs) }
split_at [] i inside at before = absurd (omega arith)
split_at (b ∷ bs) zero inside at before = split_here b bs at
split_at (b ∷ bs) (suc i) inside at before =
    let later = split_at bs i (omega arith) at (λ k h. before (suc k) (omega arith)) in
    let place : suc (i + 1) ≡ suc i + 1 = omega arith in
    split_later b bs (record { word = take i bs; rest = Some (drop (i + 1) bs) }) (before 0 (omega arith)) later
    ∙ ap (λ (k : ℕ). record { word = b ∷ take i bs; rest = Some (drop k (b ∷ bs)) }) place

-- bytes without a space
split_alone : (bs : List ℕ) → ((k : ℕ) → k < length bs → (get_or bs k 0 == space) ≡ false) → split_at_space bs ≡ record { word = bs; rest = None }
split_alone [] none = refl
split_alone (b ∷ bs) none = split_later b bs (record { word = bs; rest = None }) (none 0 (omega arith)) (split_alone bs (λ k h. none (suc k) (omega arith)))

-- the bytes before and after the first space, where one was found
pub split_found : (bs : List ℕ) (i : ℕ) → position (λ b. b == space) bs ≡ Some i → split_at_space bs ≡ record { word = take i bs; rest = Some (drop (i + 1) bs) }
split_found bs i e = let found = position-Some (λ b. b == space) bs i 0 e in split_at bs i found.0 found.1 found.2

-- where none was found, all bytes are the word
pub split_missed : (bs : List ℕ) → position (λ b. b == space) bs ≡ None → split_at_space bs ≡ record { word = bs; rest = None }
split_missed bs e = split_alone bs (λ k h. (all_fail-at_none (λ b. b == space) bs e).1 k 0 h)

-- ---- echoes

-- what is read behind the mark
echo_behind : (line rest : List ℕ) → behind (codes "> ") line ≡ Some rest → (echo_read line ≡ echo_after_mark (split_at_space rest)) × (drop 2 line ≡ rest)
unfolding echo_read
echo_behind line rest e =
    let h = some_if (label_eq (take 2 line) (codes "> ")) (drop 2 line) rest e in
    (ap (λ (t : Bool). elim t as (λ _. Option Echo) [ true ↦ echo_after_mark (split_at_space (drop 2 line)) | false ↦ None ]) h.0 ∙ ap (λ (l : List ℕ). echo_after_mark (split_at_space l)) h.1, h.1)

-- without the mark there is no echo
pub echo_unmarked : (line : List ℕ) → behind (codes "> ") line ≡ None → echo_read line ≡ None
unfolding echo_read
echo_unmarked line e = by (label_eq (take 2 line) (codes "> ")) e
  where
    by : (t : Bool) → kept_if t (drop 2 line) ≡ None → elim t as (λ _. Option Echo) [ true ↦ echo_after_mark (split_at_space (drop 2 line)) | false ↦ None ] ≡ None
    by true f = absurd (cc)
    by false f = refl

-- the echo of a number and what stands behind it
abbrev echo_with : Option (List ℕ) → ℕ → Echo
echo_with text n = record { number = n; text = text }

-- an echo where there is a number
with_number : (o : Option ℕ) (text : Option (List ℕ)) → option_and_then (λ n. Some (echo_with text n)) o ≡ option_map (echo_with text) o
with_number None text = refl
with_number (Some n) text = refl

-- a number beside a place, as an echo
beside : (line : List ℕ) (place : Option ℕ) (o : Option ℕ) → option_map (echo_of line) (option_map (λ n. (n, place)) o) ≡ option_map (echo_with (option_map (λ k. drop k line) place)) o
beside line place None = refl
beside line place (Some n) = refl

-- an echo with a text
pub echo_found : (line rest : List ℕ) (i : ℕ) → behind (codes "> ") line ≡ Some rest → position (λ b. b == space) rest ≡ Some i → option_map (echo_of line) (option_map (λ n. (n, Some (i + 3))) (line_number (take i rest))) ≡ echo_read line
echo_found line rest i e at =
    let h = echo_behind line rest e in
    let sum : 2 + (i + 1) ≡ i + 3 = omega arith in
    let place : drop (i + 1) rest ≡ drop (i + 3) line = ap (drop (i + 1)) (sym h.1) ∙ drop-drop (i + 1) 2 line ∙ ap (λ (k : ℕ). drop k line) sum in
    beside line (Some (i + 3)) (line_number (take i rest))
    ∙ sym (h.0 ∙ ap echo_after_mark (split_found rest i at) ∙ with_number (line_number (take i rest)) (Some (drop (i + 1) rest)) ∙ ap (λ (l : List ℕ). option_map (echo_with (Some l)) (line_number (take i rest))) place)

-- an echo of a number alone
pub echo_alone : (line rest : List ℕ) → behind (codes "> ") line ≡ Some rest → position (λ b. b == space) rest ≡ None → option_map (echo_of line) (option_map (λ n. (n, None)) (line_number rest)) ≡ echo_read line
echo_alone line rest e none =
    let h = echo_behind line rest e in
    beside line None (line_number rest)
    ∙ sym (h.0 ∙ ap echo_after_mark (split_missed rest none) ∙ with_number (line_number rest) None)

-- a place beside a number keeps its bound
pub place_within : (o : Option ℕ) (place : Option ℕ) (P : ℕ → Type 0) → IfSome place P → IfSome {T = ℕ × Option ℕ} (option_map (λ n. (n, place)) o) (λ r. IfSome r.1 P)
place_within None place P h = tt
place_within (Some n) place P h = h

-- the place behind the first space is within the line
pub place_inside : (line rest : List ℕ) (i : ℕ) → behind (codes "> ") line ≡ Some rest → position (λ b. b == space) rest ≡ Some i → i + 3 ≤ length line
place_inside line rest i e at =
    let h = echo_behind line rest e in
    let found = position-Some (λ b. b == space) rest i 0 at in
    let n : length rest ≡ length line - 2 = ap length (sym h.1) ∙ length-drop 2 line in
    let inside : i < length rest = found.0 in
    omega (arith, n, inside)
