-- Pieces that come to the end of what a sink said, one after the other, and a front of the last one where a put failed.
use Rattle.std.proofs.Common.{◌≡◌, ℕ, suc, ◌+◌, List, [], ◌∷◌, ◌++◌, length, take, Option, Some, None, Result, Ok, Err, OnErr, refl, sym, ap, ◌∙◌, subst, arith, append_assoc, length-append}
use Rattle.std.proofs.lemmas.List.{append-nil, take-append-le}
use Rattle.std.proofs.lemmas.List.Concat.{flat_map-append}
use Rattle.rp_io.specs.Bytes.{Appends, AppendsPrefix}
use Rattle.rp_io.proofs.PutLemmas.{AppendsPrefix-after}
use Rattle.rp_reports.specs.Text.{text_of_lines, line_end}

-- no piece
pub Appends-nothing : (said : Option (List ℕ)) → Appends said said []
Appends-nothing None = tt
Appends-nothing (Some bytes) = (bytes, refl, sym (append-nil bytes))

-- one piece and then another
pub Appends-append : (old middle new : Option (List ℕ)) (first second : List ℕ) → Appends old middle first → Appends middle new second → Appends old new (first ++ second)
Appends-append old middle None first second h k = _
Appends-append old middle (Some after) first second h k =
    let was = subst (λ o. Appends old o first) k.1 h in
    (was.0, was.1, k.2 ∙ ap (λ xs. xs ++ second) was.2 ∙ append_assoc was.0 first second)

-- the front of the text was put, and the rest was not
abbrev pub HasPut : Option (List ℕ) → Option (List ℕ) → List ℕ → List ℕ → Type 0
HasPut old now text rest = (front : List ℕ) × (front ++ rest ≡ text) × Appends old now front

-- one more line
pub HasPut-more : (old now new : Option (List ℕ)) (text rest line behind : List ℕ) → HasPut old now text rest → line ++ behind ≡ rest → Appends now new line → HasPut old new text behind
HasPut-more old now new text rest line behind h parts put =
    (h.0 ++ line, append_assoc h.0 line behind ∙ ap (λ xs. h.0 ++ xs) parts ∙ h.1, Appends-append old now new h.0 line h.2 put)

-- no byte is a front of every piece
pub AppendsPrefix-nothing : (said : Option (List ℕ)) (piece : List ℕ) → AppendsPrefix said said piece
AppendsPrefix-nothing None piece = _
AppendsPrefix-nothing (Some bytes) piece = (bytes, 0, omega arith, refl, sym (append-nil bytes))

-- a front of a piece is one of it with more behind it
AppendsPrefix-longer : (old new : Option (List ℕ)) (piece more : List ℕ) → AppendsPrefix old new piece → AppendsPrefix old new (piece ++ more)
AppendsPrefix-longer old None piece more h = _
AppendsPrefix-longer old (Some after) piece more h =
    (h.0, h.1, omega (arith, h.2, length-append piece more), h.3, h.4 ∙ ap (λ xs. h.0 ++ xs) (sym (take-append-le h.1 piece more h.2)))

-- a front of a piece, where all before it was put
pub AppendsPrefix-within : (old middle new : Option (List ℕ)) (first second more all : List ℕ) → Appends old middle first → AppendsPrefix middle new second → first ++ (second ++ more) ≡ all
    → AppendsPrefix old new all
AppendsPrefix-within old middle new first second more all h k e =
    subst (AppendsPrefix old new) (append_assoc first second more ∙ e) (AppendsPrefix-longer old new (first ++ second) more (AppendsPrefix-after old middle new first second h k))

-- a front of some lines, where all before them were put
pub AppendsPrefix-lines : (old middle new : Option (List ℕ)) (first second more all : List (List ℕ)) → Appends old middle (text_of_lines first) → AppendsPrefix middle new (text_of_lines second)
    → first ++ (second ++ more) ≡ all → AppendsPrefix old new (text_of_lines all)
AppendsPrefix-lines old middle new first second more all h k e =
    let text : text_of_lines first ++ (text_of_lines second ++ text_of_lines more) ≡ text_of_lines (first ++ (second ++ more)) =
    ap (λ xs. text_of_lines first ++ xs) (sym (flat_map-append (λ l. l ++ line_end ∷ []) second more)) ∙ sym (flat_map-append (λ l. l ++ line_end ∷ []) first (second ++ more)) in
    AppendsPrefix-within old middle new (text_of_lines first) (text_of_lines second) (text_of_lines more) (text_of_lines all) h k (text ∙ ap text_of_lines e)

-- a front of the text, where the put of a line failed
pub HasPut-front : (old now new : Option (List ℕ)) (text rest line behind : List ℕ) → HasPut old now text rest → line ++ behind ≡ rest → AppendsPrefix now new line → AppendsPrefix old new text
HasPut-front old now new text rest line behind h parts put = AppendsPrefix-within old now new h.0 line behind text h.2 put (ap (λ xs. h.0 ++ xs) parts ∙ h.1)

-- a front of a line is one of its text
pub AppendsPrefix-line : (old now : Option (List ℕ)) (line : List ℕ) → AppendsPrefix old now (line ++ line_end ∷ []) → AppendsPrefix old now (text_of_lines (line ∷ []))
AppendsPrefix-line old now line put = subst (AppendsPrefix old now) (sym (append-nil (line ++ line_end ∷ []))) put

-- what holds in any case holds where a call failed
pub OnErr-holds : {X E P : Type 0} (r : Result X E) → P → OnErr r P
OnErr-holds (Ok x) h = tt
OnErr-holds (Err x) h = h
