-- What a line is, and where the first line of a text ends.
use Rattle.std.proofs.Common.{◌≡◌, ℕ, ◌+◌, ◌<◌, ◌&&◌, cond, List, [], ◌∷◌, ◌++◌, length, take, drop, get_or, Option, Some, None, position, not, refl, ap, sym, ◌∙◌, inl, inr, arith, length-append, append_assoc, ltb}
use Rattle.std.proofs.lemmas.Bool.{and_parts, lt-ltb, le-ltb, ne_eqb, eqb-true, cases_lt}
use Rattle.std.proofs.lemmas.List.Sums.{split_at_first, passes_at_first}
use Rattle.std.specs.List.{list_all, position_or_len}
use Rattle.rp_seal_text.specs.Lines.{IsLine, is_line_end, three_lines}

-- a byte that is no line end, before a line, is the beginning of a line
pub line-cons : (b : ℕ) (line : List ℕ) → (b ≡ 10 → ⊥) → IsLine line → IsLine (b ∷ line)
line-cons b line other free = ap (λ t. not t && list_all (λ x. not (is_line_end x)) line) (ne_eqb b 10 other) ∙ free

-- two lines together are a line
pub line-append : (a b : List ℕ) → IsLine a → IsLine b → IsLine (a ++ b)
line-append [] b free_a free_b = free_b
line-append (x ∷ a) b free_a free_b =
    let parts = and_parts (not (is_line_end x)) (list_all (λ y. not (is_line_end y)) a) free_a in
    ap (λ t. t && list_all (λ y. not (is_line_end y)) (a ++ b)) parts.0 ∙ line-append a b parts.1 free_b

-- the first line end of a line and a line end is after the line
end-line : (line rest : List ℕ) → IsLine line → position_or_len is_line_end (line ++ 10 ∷ rest) ≡ length line
end-line [] rest free = refl
end-line (b ∷ line) rest free =
    let parts = and_parts (not (is_line_end b)) (list_all (λ x. not (is_line_end x)) line) free in
    ap (λ t. cond t (1 + position_or_len is_line_end (line ++ 10 ∷ rest)) 0) parts.0
    ∙ (let more = end-line line rest parts.1 in let e : 1 + position_or_len is_line_end (line ++ 10 ∷ rest) ≡ length (b ∷ line) = omega (arith, more) in e)

-- the position of the first line end is the length of the first line
pub position-line : (text line rest : List ℕ) → IsLine line → text ≡ line ++ 10 ∷ rest → position is_line_end text ≡ Some (length line)
position-line text line rest free is =
    let size = length-append line (10 ∷ rest) in
    let below : length line < length (line ++ 10 ∷ rest) = omega (arith, size) in
    ap (position is_line_end) is
    ∙ ap (λ n. let found : Option ℕ = cond (ltb n (length (line ++ 10 ∷ rest))) (Some n) None in found) (end-line line rest free)
    ∙ ap (λ t. cond t (Some (length line)) None) (lt-ltb (length line) (length (line ++ 10 ∷ rest)) below)

-- a text with a line end is what is before the first line end, the line end, and what is after it
pub position-found : (text : List ℕ) (end : ℕ) → Some end ≡ position is_line_end text → text ≡ take end text ++ 10 ∷ drop (end + 1) text
position-found text end is =
    let first : ℕ = position_or_len is_line_end text in
    elim (cases_lt first (length text)) [
      | inl below ↦
          let same : Some end ≡ Some first = is ∙ ap (λ t. cond t (Some first) None) (lt-ltb first (length text) below) in
          let at : end ≡ first = (cc) in
          let ten : get_or text first 0 ≡ 10 = eqb-true _ _ (passes_at_first is_line_end text 0 below) in
          split_at_first is_line_end text 0 below ∙ ap (λ b. take first text ++ b ∷ drop (first + 1) text) ten
          ∙ ap (λ n. take n text ++ 10 ∷ drop (n + 1) text) (sym at)
      | inr none ↦ let no : Some end ≡ None = is ∙ ap (λ t. cond t (Some first) None) (le-ltb first (length text) none) in (cc)
    ]

-- three lines and more text, line by line
pub three_lines-are : (a b c rest : List ℕ) → three_lines a b c ++ rest ≡ a ++ 10 ∷ (b ++ 10 ∷ (c ++ 10 ∷ rest))
three_lines-are a b c rest = simp append_assoc refl
