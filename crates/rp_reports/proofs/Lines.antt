-- The lines of a script have no line end, and lines without one are the lines of their text, each less one carriage return.
use Rattle.std.proofs.Common.{◌≡◌, ℕ, zero, suc, ◌-◌, Bool, true, false, ◌==◌, List, [], ◌∷◌, ◌++◌, map, length, take, cond, refl, sym, ap, ◌∙◌, subst, arith}
use Rattle.std.specs.Prelude.{slice_index}
use Rattle.std.specs.List.{AllByRecursion, slice_split, onto_first}
use Rattle.std.proofs.lemmas.List.Splits.{slice_split-cons_yes, slice_split-cons_no}
use Rattle.rp_reports.specs.Text.{line_end, text_of_lines}
use Rattle.rp_reports.specs.Report.{without_return, lines_of_pieces, script_lines}

-- the byte that ends a line
abbrev pub is_end : ℕ → Bool
is_end b = b == line_end

-- no byte ends the line
abbrev pub HasNoEnd : List ℕ → Type 0
HasNoEnd line = AllByRecursion (λ b. is_end b ≡ false) line

-- ---- the lines of a script

-- one more byte
pub onto_no_end : (b : ℕ) (pieces : List (List ℕ)) → is_end b ≡ false → AllByRecursion HasNoEnd pieces → AllByRecursion HasNoEnd (onto_first b pieces)
onto_no_end b [] e h = ((e, tt), tt)
onto_no_end b (p ∷ pieces) e h = ((e, h.0), h.1)

-- the pieces between line ends
pub pieces_no_end : (bytes : List ℕ) → AllByRecursion HasNoEnd (slice_split is_end bytes)
pieces_no_end [] = (tt, tt)
pieces_no_end (b ∷ bytes) = here (is_end b) refl (pieces_no_end bytes)
  where
    here : (t : Bool) → is_end b ≡ t → AllByRecursion HasNoEnd (slice_split is_end bytes) → AllByRecursion HasNoEnd (slice_split is_end (b ∷ bytes))
    here true e h = subst (AllByRecursion HasNoEnd) (sym (slice_split-cons_yes is_end b bytes e)) (tt, h)
    here false e h = subst (AllByRecursion HasNoEnd) (sym (slice_split-cons_no is_end b bytes e)) (onto_no_end b (slice_split is_end bytes) e h)

-- the first bytes of a line
pub take_no_end : (n : ℕ) (line : List ℕ) → HasNoEnd line → HasNoEnd (take n line)
take_no_end zero [] h = tt
take_no_end (suc n) [] h = tt
take_no_end zero (b ∷ line) h = tt
take_no_end (suc n) (b ∷ line) h = (h.0, take_no_end n line h.1)

-- a line without its carriage return
pub without_no_end : (line : List ℕ) → HasNoEnd line → HasNoEnd (without_return line)
without_no_end line h = here (slice_index line (length line - 1) == 13)
  where
    here : (t : Bool) → HasNoEnd (elim t as (λ _. List ℕ) [ true ↦ take (length line - 1) line | false ↦ line ])
    here true = take_no_end (length line - 1) line h
    here false = h

-- the lines of pieces
pub lines_no_end : (pieces : List (List ℕ)) → AllByRecursion HasNoEnd pieces → AllByRecursion HasNoEnd (lines_of_pieces pieces)
lines_no_end [] h = tt
lines_no_end ([] ∷ []) h = tt
lines_no_end ((b ∷ p) ∷ []) h = (h.0, tt)
lines_no_end (p ∷ q ∷ pieces) h = (without_no_end p h.0, lines_no_end (q ∷ pieces) h.1)

-- the lines of a script have no line end
pub script_lines_no_end : (bytes : List ℕ) → AllByRecursion HasNoEnd (script_lines bytes)
unfolding script_lines
script_lines_no_end bytes = lines_no_end (slice_split is_end bytes) (pieces_no_end bytes)

-- ---- the lines of a text

-- a line and its end
pub split_line : (line rest : List ℕ) → HasNoEnd line → slice_split is_end (line ++ line_end ∷ rest) ≡ line ∷ slice_split is_end rest
split_line [] rest h = slice_split-cons_yes is_end line_end rest refl
split_line (b ∷ line) rest h = slice_split-cons_no is_end b (line ++ line_end ∷ rest) h.0 ∙ ap (onto_first b) (split_line line rest h.1)

-- a line end behind a line
pub append_end : (line rest : List ℕ) → (line ++ line_end ∷ []) ++ rest ≡ line ++ line_end ∷ rest
append_end [] rest = refl
append_end (b ∷ line) rest = ap (λ (l : List ℕ). b ∷ l) (append_end line rest)

-- the lines behind a first one
lines_behind : (line rest : List ℕ) → lines_of_pieces (line ∷ slice_split is_end rest) ≡ without_return line ∷ lines_of_pieces (slice_split is_end rest)
lines_behind line [] = refl
lines_behind line (b ∷ rest) = here (is_end b) (slice_split is_end rest)
  where
    onto : (pieces : List (List ℕ)) → lines_of_pieces (line ∷ onto_first b pieces) ≡ without_return line ∷ lines_of_pieces (onto_first b pieces)
    onto [] = refl
    onto (p ∷ pieces) = refl

    here : (t : Bool) (pieces : List (List ℕ)) → lines_of_pieces (line ∷ cond t ([] ∷ pieces) (onto_first b pieces)) ≡ without_return line ∷ lines_of_pieces (cond t ([] ∷ pieces) (onto_first b pieces))
    here true pieces = refl
    here false pieces = onto pieces

-- the text of lines is split into them
split_again : (lines : List (List ℕ)) → AllByRecursion HasNoEnd lines → lines_of_pieces (slice_split is_end (text_of_lines lines)) ≡ map without_return lines
split_again [] h = refl
split_again (line ∷ lines) h =
    ap (λ (bytes : List ℕ). lines_of_pieces (slice_split is_end bytes)) (append_end line (text_of_lines lines))
    ∙ ap lines_of_pieces (split_line line (text_of_lines lines) h.0)
    ∙ lines_behind line (text_of_lines lines)
    ∙ ap (λ (ls : List (List ℕ)). without_return line ∷ ls) (split_again lines h.1)

-- the lines of the text of some lines
pub lines_of_text : (lines : List (List ℕ)) → AllByRecursion HasNoEnd lines → script_lines (text_of_lines lines) ≡ map without_return lines
unfolding script_lines
lines_of_text lines h = split_again lines h

-- ---- carriage returns

-- no byte of the line is a carriage return
abbrev pub HasNoReturn : List ℕ → Type 0
HasNoReturn line = AllByRecursion (λ b. (b == 13) ≡ false) line

-- the last byte is none
last_no_return : (b : ℕ) (bs : List ℕ) → HasNoReturn (b ∷ bs) → (slice_index (b ∷ bs) (length bs) == 13) ≡ false
last_no_return b [] h = h.0
last_no_return b (c ∷ bs) h = last_no_return c bs h.1

-- a line without one stays as it is
pub without_same : (line : List ℕ) → HasNoReturn line → without_return line ≡ line
without_same [] h = refl
without_same (b ∷ bs) h =
    let last : length (b ∷ bs) - 1 ≡ length bs = omega arith in
    let none : (slice_index (b ∷ bs) (length (b ∷ bs) - 1) == 13) ≡ false = ap (λ (n : ℕ). slice_index (b ∷ bs) n == 13) last ∙ last_no_return b bs h in
    λ i. elim (none i) as (λ _. List ℕ) [ true ↦ take (length (b ∷ bs) - 1) (b ∷ bs) | false ↦ b ∷ bs ]
