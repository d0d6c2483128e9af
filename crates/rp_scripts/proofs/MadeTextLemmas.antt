-- The text of a made script is split into its lines again: no line has a line end or a carriage return.
use Rattle.std.proofs.Common.{◌≡◌, ℕ, zero, suc, ◌+◌, ◌*◌, ◌-◌, ◌%◌, ◌/◌, ◌<◌, Bool, true, false, ◌==◌, nat_lt, List, [], ◌∷◌, ◌++◌, length, take, cond, refl, ap, ◌∙◌, arith}
use Rattle.std.specs.Prelude.{codes, slice_index}
use Rattle.std.specs.List.{list_all, slice_split, onto_first}
use Rattle.std.specs.Fmt.{digits, digits_onto, digit_glyph, decimal}
use Rattle.std.proofs.lemmas.Bool.{and_from, and_parts}
use Rattle.std.proofs.lemmas.List.Folds.{list_all-append}
use Rattle.std.proofs.lemmas.List.Splits.{slice_split-cons_yes, slice_split-cons_no, length-slice_split}
use Rattle.rp_reports.specs.Made.{next_seed, drawn, storey_lines, building_lines, made_script}
use Rattle.rp_reports.specs.Report.{without_return, lines_of_pieces, script_lines}
use Rattle.rp_reports.specs.Text.{line_end, text_of_lines}
use Rattle.rp_scripts.specs.Lines.{is_line_end}
use Rattle.rp_scripts.proofs.LineLemmas.{lines_of_pieces-cons}

-- the byte ends no line, and is no carriage return
abbrev is_plain_byte : ℕ → Bool
is_plain_byte b = nat_lt 13 b

-- so are all bytes of a line
abbrev IsPlain : List ℕ → Type 0
IsPlain line = list_all is_plain_byte line ≡ true

-- so are those of all lines
abbrev ArePlain : List (List ℕ) → Type 0
ArePlain lines = list_all (list_all is_plain_byte) lines ≡ true

-- ---- plain lines

-- two texts one behind the other
plain_both : (a b : List ℕ) → IsPlain a → IsPlain b → IsPlain (a ++ b)
plain_both a b h k = list_all-append is_plain_byte a b ∙ and_from _ _ h k

-- a digit
digit_plain : (n : ℕ) → is_plain_byte (digit_glyph false (n % 10)) ≡ true
digit_plain n = of_digit (n % 10) (omega arith)
  where
    of_digit : (d : ℕ) → d < 10 → is_plain_byte (cond (nat_lt d 10) (48 + d) (87 + d)) ≡ true
    of_digit d h = grind arith

-- digits in front of a text
onto_plain : (k n : ℕ) (acc : List ℕ) → IsPlain acc → IsPlain (digits_onto k 10 false n acc)
onto_plain zero n acc h = h
onto_plain (suc k) n acc h = here (n / 10 == 0) (and_from _ _ (digit_plain n) h) (onto_plain k (n / 10) (digit_glyph false (n % 10) ∷ acc) (and_from _ _ (digit_plain n) h))
  where
    here : (b : Bool) → IsPlain (digit_glyph false (n % 10) ∷ acc) → IsPlain (digits_onto k 10 false (n / 10) (digit_glyph false (n % 10) ∷ acc)) → IsPlain (cond b (digit_glyph false (n % 10) ∷ acc) (digits_onto k 10 false (n / 10) (digit_glyph false (n % 10) ∷ acc)))
    here true f g = f
    here false f g = g

-- a decimal
decimal_plain : (n : ℕ) → IsPlain (decimal n)
unfolding digits
decimal_plain n = onto_plain 64 n [] refl

-- a text, a number behind it, and a word
worded : (front : List ℕ) (n : ℕ) (word : List ℕ) → IsPlain front → IsPlain word → IsPlain (front ++ decimal n ++ word)
worded front n word h k = plain_both (front ++ decimal n) word (plain_both front (decimal n) h (decimal_plain n)) k

-- the lines of a storey
storey_plain : (i a b : ℕ) → ArePlain (storey_lines i a b)
storey_plain i a b =
    let named = codes "register s" ++ decimal i ++ codes " box 0 0 " in
    let low = named ++ decimal (3000 * i) ++ codes " 60000 40000 " in
    let first = codes "cut s" ++ decimal i ++ codes " half " in
    let second = first ++ decimal a ++ codes " " in
    let third = second ++ decimal b ++ codes " 0 -" in
    let fourth = third ++ decimal (30000 * a + 20000 * b) ++ codes " s" in
    let inner = fourth ++ decimal i ++ codes "a s" in
    let named_plain = worded (codes "register s") i (codes " box 0 0 ") refl refl in
    let low_plain = worded named (3000 * i) (codes " 60000 40000 ") named_plain refl in
    let first_plain = worded (codes "cut s") i (codes " half ") refl refl in
    let third_plain = worded second b (codes " 0 -") (worded first a (codes " ") first_plain refl) refl in
    let inner_plain = worded fourth i (codes "a s") (worded third (30000 * a + 20000 * b) (codes " s") third_plain refl) refl in
    and_from _ _ (plain_both low (decimal (3000 * (i + 1))) low_plain (decimal_plain (3000 * (i + 1))))
    (and_from _ _ (worded inner i (codes "b") inner_plain refl) (and_from _ _ (worded (codes "neighbours s") i (codes "a") refl refl) refl))

-- the lines of a building
building_plain : (n i seed : ℕ) → ArePlain (building_lines n i seed)
building_plain zero i seed = refl
building_plain (suc n) i seed =
    list_all-append (list_all is_plain_byte) (storey_lines i (drawn (next_seed seed) 9 + 1) (drawn (next_seed (next_seed seed)) 9 + 1)) (building_lines n (i + 1) (next_seed (next_seed seed)))
    ∙ and_from _ _ (storey_plain i (drawn (next_seed seed) 9 + 1) (drawn (next_seed (next_seed seed)) 9 + 1)) (building_plain n (i + 1) (next_seed (next_seed seed)))

-- ---- split again

-- a plain byte is no line end
no_end : (b : ℕ) → is_plain_byte b ≡ true → is_line_end b ≡ false
no_end b e = grind arith

-- nor a carriage return
no_return : (b : ℕ) → is_plain_byte b ≡ true → (b == 13) ≡ false
no_return b e = grind arith

-- a line and its end
split_line : (line rest : List ℕ) → IsPlain line → slice_split is_line_end ((line ++ line_end ∷ []) ++ rest) ≡ line ∷ slice_split is_line_end rest
split_line [] rest h = slice_split-cons_yes is_line_end line_end rest refl
split_line (b ∷ line) rest h =
    let parts = and_parts _ _ h in
    slice_split-cons_no is_line_end b ((line ++ line_end ∷ []) ++ rest) (no_end b parts.0) ∙ ap (onto_first b) (split_line line rest parts.1)

-- no byte of a plain line is a carriage return
index_no_return : (line : List ℕ) (k : ℕ) → IsPlain line → (slice_index line k == 13) ≡ false
index_no_return [] k h = refl
index_no_return (b ∷ line) zero h = no_return b (and_parts _ _ h).0
index_no_return (b ∷ line) (suc k) h = index_no_return line k (and_parts _ _ h).1

-- so none goes
without_return_same : (line : List ℕ) → IsPlain line → without_return line ≡ line
without_return_same line h = ap (λ (b : Bool). elim b as (λ _. List ℕ) [ true ↦ take (length line - 1) line | false ↦ line ]) (index_no_return line (length line - 1) h)

-- the text of plain lines is split into them
split_again : (lines : List (List ℕ)) → ArePlain lines → lines_of_pieces (slice_split is_line_end (text_of_lines lines)) ≡ lines
split_again [] h = refl
split_again (line ∷ lines) h =
    let more : 0 < length (slice_split is_line_end (text_of_lines lines)) = omega (arith, length-slice_split is_line_end (text_of_lines lines)) in
    let parts = and_parts _ _ h in
    ap lines_of_pieces (split_line line (text_of_lines lines) parts.0) ∙ lines_of_pieces-cons line (slice_split is_line_end (text_of_lines lines)) more
    ∙ ap (λ (first : List ℕ). first ∷ lines_of_pieces (slice_split is_line_end (text_of_lines lines))) (without_return_same line parts.0)
    ∙ ap (λ (rest : List (List ℕ)). line ∷ rest) (split_again lines parts.1)

-- the lines of a made script are those of its text
pub made_lines_again : (n seed : ℕ) → script_lines (text_of_lines (made_script n seed)) ≡ made_script n seed
unfolding script_lines made_script
made_lines_again n seed = split_again (building_lines n 0 seed) (building_plain n 0 seed)
