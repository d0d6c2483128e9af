-- Things that are read one after the other: those so far, and what the text that is left gives, are what the whole text gives.
use Rattle.std.proofs.Common.{◌≡◌, ℕ, zero, suc, ◌+◌, ◌-◌, ◌<◌, ◌==◌, Bool, true, false, List, [], ◌∷◌, ◌++◌, length, Option, Some, None, refl, sym, ap, ◌∙◌, subst, arith, append_assoc, append-nil, length-append}
use Rattle.std.specs.Prelude.{option_map, option_and_then}
use Rattle.rp_algebra.proofs.Options.{none_not_some}
use Rattle.rp_language.specs.Grammar.{space}
use Rattle.rp_reports.specs.ProofText.{cons_some}
use Rattle.rp_text.specs.Readers.{Taker, ended, spaced_item, with_one_more, items, filled}
use Rattle.rp_text.proofs.ReaderLaws.{ReadsExactly, made, spaced_reads}

-- the things so far, and those that the text gives
abbrev pub with_front : {A : Type 0} → List A → Option (List A) → Option (List A)
with_front xs o = option_map (λ ys. xs ++ ys) o

-- without things so far
pub front_none : {A : Type 0} (o : Option (List A)) → with_front [] o ≡ o
front_none None = refl
front_none (Some ys) = refl

-- nothing is left
pub none_left : (n : ℕ) → true ≡ (n == 0) → n ≡ 0
none_left n e = grind arith

-- one more thing so far
front_more : {A : Type 0} (xs : List A) (x : A) (o : Option (List A)) → with_front xs (cons_some (Some x) o) ≡ with_front (xs ++ x ∷ []) o
front_more xs x None = refl
front_more xs x (Some ys) = ap Some (sym (append_assoc xs (x ∷ []) ys))

-- the next thing of a text
items_next : {A : Type 0} (item : Taker A) (room : ℕ) (line : List ℕ) (x : A) (rest : List ℕ) → 0 < room → spaced_item item line ≡ Some (x, rest) → items item room line ≡ cons_some (Some x) (items item (room - 1) rest)
unfolding items
items_next item zero line x rest some e = absurd (omega arith)
items_next item (suc room) [] x rest some e = absurd (none_not_some (x, rest) e)
items_next {A} item (suc room) (b ∷ bs) x rest some e =
    let one : room ≡ suc room - 1 = omega arith in
    ap (option_and_then (λ (s : A × List ℕ). cons_some (Some s.0) (items item room s.1))) e ∙ ap (λ (k : ℕ). cons_some (Some x) (items item k rest)) one

-- what is left gives the same after the next thing
next_same : {A : Type 0} (item : Taker A) (xs : List A) (room : ℕ) (line : List ℕ) (x : A) (rest : List ℕ) (whole : Option (List A)) → 0 < room → spaced_item item line ≡ Some (x, rest)
    → with_front xs (items item room line) ≡ whole → with_front (xs ++ x ∷ []) (items item (room - 1) rest) ≡ whole
next_same item xs room line x rest whole some e same = sym (ap (with_front xs) (items_next item room line x rest some e) ∙ front_more xs x (items item (room - 1) rest)) ∙ same

-- the next thing was read and put behind those so far
pub read_next : {A : Type 0} (item : Taker A) (xs new : List A) (room : ℕ) (line rest : List ℕ) (whole : Option (List A)) → 0 < room → Some (new, rest) ≡ option_map (with_one_more xs) (spaced_item item line)
    → with_front xs (items item room line) ≡ whole → with_front new (items item (room - 1) rest) ≡ whole
read_next {A} item xs new room line rest whole some e same =
    let m = made (with_one_more xs) (spaced_item item line) (new, rest) (sym e) in
    subst (λ (r : List A × List ℕ). with_front r.0 (items item (room - 1) r.1) ≡ whole) m.2 (next_same item xs room line m.0.0 m.0.1 whole some m.1 same)

-- there is one more
pub next_count : {A : Type 0} (item : Taker A) (xs new : List A) (line rest : List ℕ) → Some (new, rest) ≡ option_map (with_one_more xs) (spaced_item item line) → length new ≡ length xs + 1
next_count {A} item xs new line rest e =
    let m = made (with_one_more xs) (spaced_item item line) (new, rest) (sym e) in
    ap (λ (r : List A × List ℕ). length r.0) (sym m.2) ∙ length-append xs (m.0.0 ∷ [])

-- there was no next thing
next_none : {A : Type 0} (xs : List A) (o : Option (A × List ℕ)) → None ≡ option_map (with_one_more xs) o → o ≡ None
next_none xs None e = refl
next_none xs (Some r) e = absurd (none_not_some (with_one_more xs r) e)

-- where something is left that begins with no thing, the text gives nothing
pub none_of : {A : Type 0} (item : Taker A) (xs : List A) (room : ℕ) (line : List ℕ) (whole : Option (List A)) → 0 < length line → None ≡ option_map (with_one_more xs) (spaced_item item line) → with_front xs (items item room line) ≡ whole → None ≡ whole
unfolding items
none_of item xs room [] whole some e same = absurd (omega arith)
none_of item xs zero (b ∷ bs) whole some e same = same
none_of {A} item xs (suc room) (b ∷ bs) whole some e same =
    sym (ap (λ (o : Option (A × List ℕ)). with_front xs (option_and_then (λ (s : A × List ℕ). cons_some (Some s.0) (items item room s.1)) o)) (next_none xs (spaced_item item (b ∷ bs)) e)) ∙ same

-- nor does it where an item is wanted
pub none_same : {A : Type 0} (item : Taker A) (xs : List A) (room : ℕ) (line : List ℕ) (whole : Option (List A)) → 0 < length line → None ≡ option_map (with_one_more xs) (spaced_item item line) → with_front xs (items item room line) ≡ whole → None ≡ filled whole
none_same item xs room line whole some e same = ap filled (none_of item xs room line whole some e same)

-- where something is left and there is no room, the text gives nothing
pub full_of : {A : Type 0} (item : Taker A) (xs : List A) (room : ℕ) (line : List ℕ) (whole : Option (List A)) → room ≡ 0 → 0 < length line → with_front xs (items item room line) ≡ whole → None ≡ whole
unfolding items
full_of item xs room [] whole none some same = absurd (omega arith)
full_of item xs zero (b ∷ bs) whole none some same = same
full_of item xs (suc room) (b ∷ bs) whole none some same = absurd (omega arith)

-- nor does it where an item is wanted
pub full_same : {A : Type 0} (item : Taker A) (xs : List A) (room : ℕ) (line : List ℕ) (whole : Option (List A)) → room ≡ 0 → 0 < length line → with_front xs (items item room line) ≡ whole → None ≡ filled whole
full_same item xs room line whole none some same = ap filled (full_of item xs room line whole none some same)

-- where nothing is left, the text gives what was read so far
pub done_same : {A : Type 0} (item : Taker A) (xs : List A) (room : ℕ) (line : List ℕ) (whole : Option (List A)) → length line ≡ 0 → with_front xs (items item room line) ≡ whole → Some xs ≡ whole
unfolding items
done_same item xs zero [] whole none same = ap Some (sym (append-nil xs)) ∙ same
done_same item xs (suc room) [] whole none same = ap Some (sym (append-nil xs)) ∙ same
done_same item xs room (b ∷ bs) whole none same = absurd (omega arith)

-- and that is nothing
pub done_empty : {A : Type 0} (item : Taker A) (xs : List A) (room : ℕ) (line : List ℕ) (whole : Option (List A)) → length line ≡ 0 → length xs ≡ 0 → with_front xs (items item room line) ≡ whole → None ≡ filled whole
done_empty item [] room line whole none empty same = ap filled (done_same item [] room line whole none same)
done_empty item (x ∷ xs) room line whole none empty same = absurd (omega arith)

-- or something
pub done_filled : {A : Type 0} (item : Taker A) (xs : List A) (room : ℕ) (line : List ℕ) (whole : Option (List A)) → length line ≡ 0 → 0 < length xs → with_front xs (items item room line) ≡ whole → Some xs ≡ filled whole
done_filled item [] room line whole none some same = absurd (omega arith)
done_filled item (x ∷ xs) room line whole none some same = ap filled (done_same item (x ∷ xs) room line whole none same)

-- what stands behind a thing is shorter
shorter : {A : Type 0} (text : A → List ℕ) (fits : A → Bool) (item : Taker A) → ReadsExactly text fits item → (line : List ℕ) (x : A) (rest : List ℕ) → spaced_item item line ≡ Some (x, rest) → length rest < length line
shorter text fits item r line x rest e =
    let h = (spaced_reads text fits item r).sound line x rest e in
    let n : length line ≡ length (space ∷ text x) + length rest = ap length h.0 ∙ length-append (space ∷ text x) rest in
    let some : 0 < length (space ∷ text x) = omega arith in
    omega (arith, n, some)

-- what is left after the next thing is shorter
pub next_shorter : {A : Type 0} (text : A → List ℕ) (fits : A → Bool) (item : Taker A) → ReadsExactly text fits item → (xs new : List A) (line rest : List ℕ) → Some (new, rest) ≡ option_map (with_one_more xs) (spaced_item item line) → length rest < length line
next_shorter {A} text fits item r xs new line rest e =
    let m = made (with_one_more xs) (spaced_item item line) (new, rest) (sym e) in
    subst (λ (s : List A × List ℕ). length s.1 < length line) m.2 (shorter text fits item r line m.0.0 m.0.1 m.1)

-- ---- one thing alone

-- a thing behind which nothing stands
pub ended_all : {A : Type 0} (x : A) (rest : List ℕ) (o : Option (A × List ℕ)) → true ≡ (length rest == 0) → Some (x, rest) ≡ o → Some x ≡ ended o
ended_all x [] o none e = ap ended e
ended_all x (b ∷ bs) o none e = absurd (omega (arith, none_left (length (b ∷ bs)) none))

-- a thing behind which something stands
pub ended_part : {A : Type 0} (x : A) (rest : List ℕ) (o : Option (A × List ℕ)) → false ≡ (length rest == 0) → Some (x, rest) ≡ o → None ≡ ended o
ended_part x [] o some e = absurd (cc)
ended_part x (b ∷ bs) o some e = ap ended e
