-- The three lines of a checkpoint have no line end in them.
use Rattle.std.proofs.Common.{◌≡◌, ℕ, zero, suc, ◌+◌, ◌<◌, ◌≤◌, ◌/◌, ◌%◌, ◌*◌, ◌^◌, true, false, List, [], ◌∷◌, length, get_or, slice_index, replicate, decimal, nat_le, nat_lt, not, IsTrue, refl, arith}
use Rattle.std.proofs.lemmas.Bool.{and_parts, not-true, leb-true, eq-eqb}
use Rattle.std.proofs.lemmas.Fmt.{decimal_is_IsNumeral}
use Rattle.std.proofs.lemmas.Str.Parse.{digit_from_value}
use Rattle.std.specs.List.{list_all}
use Rattle.std.specs.Str.Parse.{AllDigits}
use Rattle.base64.specs.Engines.{standard}
use Rattle.base64.specs.GeneralPurpose.{encode_of}
use Rattle.base64.specs.Rfc4648.{encode_symbols, padding_len}
use Rattle.rp_seal_text.specs.Lines.{IsLine, is_line_end}
use Rattle.rp_seal_text.specs.Origin.{is_origin}
use Rattle.rp_seal_text.proofs.LineLemmas.{line-append, line-cons}

-- a text without ASCII control characters is a line
printable_line : (text : List ℕ) → list_all (nat_le 32) text ≡ true → IsLine text
printable_line [] printable = refl
printable_line (b ∷ text) printable =
    let parts = and_parts (nat_le 32 b) (list_all (nat_le 32) text) printable in
    let high : 32 ≤ b = leb-true 32 b parts.0 in
    line-cons b text (λ e. absurd (omega (arith, high, e))) (printable_line text parts.1)

-- an origin is a line
pub origin_line : (text : List ℕ) → IsTrue (is_origin text) → IsLine text
origin_line text origin = printable_line text ((and_parts (nat_lt 0 (length text)) (list_all (nat_le 32) text) origin).1)

-- decimal digits are a line
digits_line : (digits : List ℕ) → AllDigits 10 digits → IsLine digits
digits_line [] all = refl
digits_line (b ∷ digits) all =
    let range = digit_from_value b all.0 in
    line-cons b digits (λ e. absurd (omega (arith, range, e))) (digits_line digits all.1)

-- a size in decimal is a line
pub size_line : (size : ℕ) → size < 2 ^ 64 → IsLine (decimal size)
size_line size fits = digits_line (decimal size) ((decimal_is_IsNumeral size fits).0.1)

-- no byte of a line is a line end, whatever its index
line-at : (line : List ℕ) (i : ℕ) → IsLine line → get_or line i 0 ≡ 10 → ⊥
line-at [] i free e = absurd (omega (arith, e))
line-at (b ∷ line) zero free e =
    let parts = and_parts (not (is_line_end b)) (list_all (λ x. not (is_line_end x)) line) free in
    let other : is_line_end b ≡ false = not-true (is_line_end b) parts.0 in
    let same : is_line_end b ≡ true = eq-eqb b 10 e in
    absurd (cc)
line-at (b ∷ line) (suc i) free e = line-at line i ((and_parts (not (is_line_end b)) (list_all (λ x. not (is_line_end x)) line) free).1) e

-- symbols of a table that is a line are a line
symbols_line : (t m : List ℕ) → ((i : ℕ) → slice_index t i ≡ 10 → ⊥) → IsLine (encode_symbols t m)
unfolding encode_symbols
symbols_line t [] other = refl
symbols_line t (a ∷ []) other =
    let second : List ℕ = slice_index t (a % 4 * 16) ∷ [] in
    line-cons (slice_index t (a / 4)) second (other (a / 4)) (line-cons (slice_index t (a % 4 * 16)) [] (other (a % 4 * 16)) refl)
symbols_line t (a ∷ b ∷ []) other =
    let third : List ℕ = slice_index t (b % 16 * 4) ∷ [] in
    let second : List ℕ = slice_index t (a % 4 * 16 + b / 16) ∷ third in
    line-cons (slice_index t (a / 4)) second (other (a / 4))
    (line-cons (slice_index t (a % 4 * 16 + b / 16)) third (other (a % 4 * 16 + b / 16))
    (line-cons (slice_index t (b % 16 * 4)) [] (other (b % 16 * 4)) refl))
symbols_line t (a ∷ b ∷ c ∷ rest) other =
    let fourth : List ℕ = slice_index t (c % 64) ∷ encode_symbols t rest in
    let third : List ℕ = slice_index t (b % 16 * 4 + c / 64) ∷ fourth in
    let second : List ℕ = slice_index t (a % 4 * 16 + b / 16) ∷ third in
    line-cons (slice_index t (a / 4)) second (other (a / 4))
    (line-cons (slice_index t (a % 4 * 16 + b / 16)) third (other (a % 4 * 16 + b / 16))
    (line-cons (slice_index t (b % 16 * 4 + c / 64)) fourth (other (b % 16 * 4 + c / 64))
    (line-cons (slice_index t (c % 64)) (encode_symbols t rest) (other (c % 64)) (symbols_line t rest other))))

-- padding symbols are a line
padding_line : (n pad : ℕ) → (pad ≡ 10 → ⊥) → IsLine (replicate n pad)
padding_line zero pad other = refl
padding_line (suc n) pad other = line-cons pad (replicate n pad) other (padding_line n pad other)

-- the symbols of base64 are a line
table_line : IsLine standard.encode_table
table_line = refl

-- a root hash in base64 is a line
pub root_line : (root : List ℕ) → IsLine (encode_of standard root)
root_line root = line-append (encode_symbols standard.encode_table root) _ (symbols_line standard.encode_table root (λ i. line-at standard.encode_table i table_line)) (padding_line (padding_len (length root)) 61 (λ e. absurd (omega (arith, e))))
