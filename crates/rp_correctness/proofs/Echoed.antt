-- An echo that is read is the line.
use Rattle.std.proofs.Common.{◌≡◌, ℕ, ◌+◌, ◌-◌, ◌*◌, ◌^◌, ◌<◌, ◌≤◌, Bool, true, false, ◌&&◌, ◌||◌, ◌==◌, not, ⊎_elim, List, [], ◌∷◌, ◌++◌, length, take, drop, nat_le, fold, Option, Some, None, refl, sym, ap, ◌∙◌, subst, arith, get_or, append_assoc}
use Rattle.std.specs.Prelude.{codes, option_and_then}
use Rattle.std.specs.List.{list_all}
use Rattle.std.specs.Char.{is_ascii_digit}
use Rattle.std.specs.Fmt.{decimal}
use Rattle.std.proofs.lemmas.List.{take-append-drop}
use Rattle.std.proofs.lemmas.Bool.{or_cases, and_parts, and_from}
use Rattle.std.proofs.lemmas.Fmt.{decimal-digits_value, decimal_digit, digits_decimal}
use Rattle.std.proofs.lemmas.Str.Parse.{IsDigitsTest, FoldsDigits, IsNumeralModel, numerals_by_fold}
use Rattle.rp_algebra.proofs.Options.{none_not_some, same_some, some_if}
use Rattle.rp_language.specs.Name.{label_eq}
use Rattle.rp_language.specs.Grammar.{Word, space, zero_digit, value_of_digits, starts_above_zero, spells_zero, natural_spelled, Version, blank, reading}
use Rattle.rp_reports.specs.ProofText.{line_number, Split, split_at_space, Echo, echo_after_mark, echo_read}
use Rattle.rp_reports.specs.TrueReport.{told_echo}
use Rattle.rp_states.proofs.Labels.{label_is}
use Rattle.rp_language.proofs.Decimal.{digit_is}
use Rattle.rp_checker_completeness.proofs.ReportTaken.{empty_is_blank}

-- ---- a number that is spelled is its decimal

-- only digits
abbrev AreDigits : List ℕ → Type 0
AreDigits ds = list_all is_ascii_digit ds ≡ true

-- one more digit
abbrev step : ℕ → ℕ → ℕ
step n d = 10 * n + (d - zero_digit)

-- and the other way round
digit_test : (d : ℕ) → 48 ≤ d → d ≤ 57 → is_ascii_digit d ≡ true
digit_test d h g = grind arith

-- the test of digits says what digits are
tells_digits : IsDigitsTest AreDigits
tells_digits = record {
  empty = refl;
  parts = λ c cs e. let p = and_parts (is_ascii_digit c) (list_all is_ascii_digit cs) e in let k = digit_is c p.0 in (omega arith, p.1);
  more = λ c cs k e. and_from (is_ascii_digit c) (list_all is_ascii_digit cs) (digit_test c (omega arith) (omega arith)) e;
}

-- the number of digits is the fold of the reader
folds_digits : FoldsDigits (λ n ds. fold step n ds)
folds_digits = record { empty = λ n. refl; more = λ n c cs k. ap (λ (m : ℕ). fold step m cs) (omega arith) }

-- how digits stand for a number
digits_model : IsNumeralModel AreDigits (λ ds. fold step 0 ds)
digits_model = numerals_by_fold AreDigits tells_digits (λ n ds. fold step n ds) folds_digits

-- the decimal of a number is of digits
pub decimal_is_digits : (n : ℕ) → n < 2 ^ 64 → list_all is_ascii_digit (decimal n) ≡ true
decimal_is_digits n small = digits_decimal digits_model n small

-- digits of which the first is not zero, or the one digit zero
digits_are_decimal : (word : Word) → AreDigits word → 0 < length word → (get_or word 0 0 ≡ 48 → length word ≡ 1) → value_of_digits word < 2 ^ 64 → decimal (value_of_digits word) ≡ word
digits_are_decimal word all some lead small = decimal-digits_value digits_model word all some lead small

-- a word that spells a number above zero is its decimal
above_is_decimal : (word : Word) → starts_above_zero word ≡ true → value_of_digits word < 2 ^ 64 → decimal (value_of_digits word) ≡ word
above_is_decimal [] e small = absurd (cc)
above_is_decimal (d ∷ ds) e small = let p = and_parts (not (d == zero_digit)) (list_all is_ascii_digit (d ∷ ds)) e in digits_are_decimal (d ∷ ds) p.1 (omega arith) (λ z. absurd (not_zero d z p.0)) small
  where
    not_zero : (d : ℕ) → d ≡ 48 → not (d == zero_digit) ≡ true → ⊥
    not_zero d z f = grind arith

-- so is the word that spells zero
zero_is_decimal : (word : Word) → spells_zero word ≡ true → decimal (value_of_digits word) ≡ word
zero_is_decimal word e = subst (λ (w : Word). decimal (value_of_digits w) ≡ w) (sym (label_is word (zero_digit ∷ []) e)) (decimal_digit 0 (omega arith))

-- the number of a line is spelled by its decimal
number_is_decimal : (word : Word) (n : ℕ) → line_number word ≡ Some n → word ≡ decimal n
number_is_decimal word n e = by (spells_zero word || starts_above_zero word) refl e
  where
    in_range : (v : ℕ) → (nat_le 1 v && nat_le v 16777216) ≡ true → v < 2 ^ 64
    in_range v f = grind arith

    by : (b : Bool) → (spells_zero word || starts_above_zero word) ≡ b
        → option_and_then (λ m. elim (nat_le 1 m && nat_le m 16777216) as (λ _. Option ℕ) [ true ↦ Some m | false ↦ None ]) (elim b as (λ _. Option ℕ) [ true ↦ Some (value_of_digits word) | false ↦ None ]) ≡ Some n
        → word ≡ decimal n
    by false f g = absurd (none_not_some n g)
    by true f g =
        let h = some_if (nat_le 1 (value_of_digits word) && nat_le (value_of_digits word) 16777216) (value_of_digits word) n g in
        sym (⊎_elim (λ z. zero_is_decimal word z) (λ a. above_is_decimal word a (in_range (value_of_digits word) h.0)) (or_cases (spells_zero word) (starts_above_zero word) f)) ∙ ap decimal h.1

-- the number of a line is within its bounds
pub number_in_bounds : (word : Word) (n : ℕ) → line_number word ≡ Some n → n ≤ 16777216
number_in_bounds word n e = by (natural_spelled word) e
  where
    at_most : (v : ℕ) → (nat_le 1 v && nat_le v 16777216) ≡ true → v ≤ 16777216
    at_most v f = grind arith

    by : (o : Option ℕ) → option_and_then (λ m. elim (nat_le 1 m && nat_le m 16777216) as (λ _. Option ℕ) [ true ↦ Some m | false ↦ None ]) o ≡ Some n → n ≤ 16777216
    by None g = absurd (none_not_some n g)
    by (Some v) g = let h = some_if (nat_le 1 v && nat_le v 16777216) v n g in subst (λ (m : ℕ). m ≤ 16777216) h.1 (at_most v h.0)

-- ---- the echo

-- what stands behind the number of an echo
abbrev pub behind_number : Option (List ℕ) → List ℕ
behind_number None = []
behind_number (Some text) = space ∷ text

-- an echo as a line
abbrev pub echo_line : Echo → List ℕ
echo_line e = codes "> " ++ decimal e.number ++ behind_number e.text

-- the bytes before and behind the first space are all bytes
split_is_all : (bytes : List ℕ) → (split_at_space bytes).word ++ behind_number (split_at_space bytes).rest ≡ bytes
split_is_all [] = refl
split_is_all (b ∷ bs) = by (b == space) refl (split_is_all bs)
  where
    at_space : (c : ℕ) → (c == space) ≡ true → space ≡ c
    at_space c f = grind arith

    by : (t : Bool) → (b == space) ≡ t → (split_at_space bs).word ++ behind_number (split_at_space bs).rest ≡ bs
        → (elim t as (λ _. Split) [ true ↦ record { word = []; rest = Some bs } | false ↦ record { word = b ∷ (split_at_space bs).word; rest = (split_at_space bs).rest } ]).word
        ++ behind_number (elim t as (λ _. Split) [ true ↦ record { word = []; rest = Some bs } | false ↦ record { word = b ∷ (split_at_space bs).word; rest = (split_at_space bs).rest } ]).rest ≡ b ∷ bs
    by true f h = ap (λ (c : ℕ). c ∷ bs) (at_space b f)
    by false f h = ap (λ (cs : List ℕ). b ∷ cs) h

-- an echo behind its mark
behind_mark : (s : Split) (e : Echo) → echo_after_mark s ≡ Some e → s.word ++ behind_number s.rest ≡ decimal e.number ++ behind_number e.text
behind_mark s e f = by (line_number s.word) refl f
  where
    by : (o : Option ℕ) → line_number s.word ≡ o → option_and_then (λ n. Some (record { number = n; text = s.rest })) o ≡ Some e → s.word ++ behind_number s.rest ≡ decimal e.number ++ behind_number e.text
    by None g h = absurd (none_not_some e h)
    by (Some n) g h =
        ap (λ (w : List ℕ). w ++ behind_number s.rest) (number_is_decimal s.word n g)
        ∙ ap (λ (k : Echo). decimal k.number ++ behind_number k.text) (same_some (record { number = n; text = s.rest }) e h)

-- the number of an echo is within its bounds
mark_in_bounds : (s : Split) (e : Echo) → echo_after_mark s ≡ Some e → e.number ≤ 16777216
mark_in_bounds s e f = by (line_number s.word) refl f
  where
    by : (o : Option ℕ) → line_number s.word ≡ o → option_and_then (λ n. Some (record { number = n; text = s.rest })) o ≡ Some e → e.number ≤ 16777216
    by None g h = absurd (none_not_some e h)
    by (Some n) g h = subst (λ (k : Echo). k.number ≤ 16777216) (same_some (record { number = n; text = s.rest }) e h) (number_in_bounds s.word n g)

-- an echo as it is read from a line: the line is its line, and its number is within its bounds
pub record IsEchoOf (line : List ℕ) (e : Echo) : Type 0 where
  pub is_line : line ≡ echo_line e
  pub bounded : e.number ≤ 16777216

-- a line that is read as an echo is the line of the echo
pub echo_is_line : (line : List ℕ) (e : Echo) → echo_read line ≡ Some e → IsEchoOf line e
unfolding echo_read
echo_is_line line e f = by (label_eq (take 2 line) (codes "> ")) refl f
  where
    by : (b : Bool) → label_eq (take 2 line) (codes "> ") ≡ b → elim b as (λ _. Option Echo) [ true ↦ echo_after_mark (split_at_space (drop 2 line)) | false ↦ None ] ≡ Some e → IsEchoOf line e
    by false g h = absurd (none_not_some e h)
    by true g h = record {
      is_line = sym (take-append-drop 2 line)
          ∙ ap (λ (ls : List ℕ). ls ++ drop 2 line) (label_is (take 2 line) (codes "> ") g)
          ∙ ap (λ (ls : List ℕ). codes "> " ++ ls) (sym (split_is_all (drop 2 line)) ∙ behind_mark (split_at_space (drop 2 line)) e h);
      bounded = mark_in_bounds (split_at_space (drop 2 line)) e h;
    }

-- a text that is not blank has a byte, so its echo is told as it is read
pub told_is_line : (v : Version) (n : ℕ) (text : List ℕ) → (reading v text ≡ blank → ⊥) → told_echo n (Some text) ≡ echo_line (record { number = n; text = Some text })
told_is_line v n [] h = absurd (h (empty_is_blank v))
told_is_line v n (b ∷ bs) h = ap (λ (ls : List ℕ). codes "> " ++ ls) (append_assoc (decimal n) (space ∷ []) (b ∷ bs))

-- the echo without a text
pub told_is_number : (n : ℕ) → told_echo n None ≡ echo_line (record { number = n; text = None })
told_is_number n = ap (λ (ls : List ℕ). codes "> " ++ ls) (sym (append_nothing (decimal n)))
  where
    append_nothing : (xs : List ℕ) → xs ++ [] ≡ xs
    append_nothing [] = refl
    append_nothing (x ∷ xs) = ap (λ (ys : List ℕ). x ∷ ys) (append_nothing xs)
