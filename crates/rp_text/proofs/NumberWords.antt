-- A word that spells a number is the number's one spelling.
use Rattle.std.proofs.Common.{◌≡◌, ℕ, zero, suc, ◌+◌, ◌-◌, ◌*◌, ◌/◌, ◌%◌, ◌^◌, ◌<◌, ◌≤◌, Bool, true, false, ◌||◌, not, ◌==◌, ℤ, pos, negsuc, nat_abs, ⊎_elim, List, [], ◌∷◌, ◌++◌, Option, Some, None, refl, sym, ap, ◌∙◌, subst, arith, fold, append_assoc, append-nil}
use Rattle.std.specs.List.{list_all}
use Rattle.std.specs.Char.{is_ascii_digit}
use Rattle.std.specs.Fmt.{decimal, signed_decimal}
use Rattle.std.proofs.lemmas.Fmt.{decimal_digit, decimal_step_wide}
use Rattle.std.proofs.lemmas.Bool.{and_parts, or_cases}
use Rattle.std.proofs.lemmas.Slice.Eq.{bytes_eq-Decides}
use Rattle.rp_algebra.proofs.Options.{none_not_some, same_some, some_if}
use Rattle.rp_language.specs.Grammar.{Word, minus_sign, zero_digit, value_of_digits, starts_above_zero, spells_zero, natural_spelled, as_negative, as_whole, number_spelled}
use Rattle.rp_language.proofs.Decimal.{digit_is}

-- one more digit
abbrev step : ℕ → ℕ → ℕ
step n d = 10 * n + (d - zero_digit)

-- digits behind a number make it no smaller
grows : (n : ℕ) (ds : List ℕ) → n ≤ fold step n ds
grows n [] = omega arith
grows n (d ∷ ds) = let more = grows (step n d) ds in omega (arith, more)

-- digits behind a number above 0 are appended to its decimal
decimal_behind : (n : ℕ) (ds : List ℕ) → 0 < n → list_all is_ascii_digit ds ≡ true → fold step n ds < 10 ^ 64 → decimal (fold step n ds) ≡ decimal n ++ ds
decimal_behind n [] some all small = sym (append-nil (decimal n))
decimal_behind n (d ∷ ds) some all small =
    let parts = and_parts _ _ all in
    let size = digit_is d parts.0 in
    let more = grows (step n d) ds in
    let quotient : step n d / 10 ≡ n = omega (arith, size.0, size.1) in
    let rest : 48 + step n d % 10 ≡ d = omega (arith, size.0, size.1) in
    let below : step n d < 10 ^ 64 = omega (arith, more, small) in
    decimal_behind (step n d) ds (omega arith) parts.1 small
    ∙ ap (λ (l : List ℕ). l ++ ds) (decimal_step_wide (step n d) (omega arith) below ∙ (λ i. decimal (quotient i) ++ rest i ∷ []))
    ∙ append_assoc (decimal n) (d ∷ []) ds

-- a first digit above zero
first_above : (d : ℕ) → not (d == zero_digit) ≡ true → 48 ≤ d → 0 < step 0 d
first_above d e h = grind arith

-- digits of which the first is not zero are the decimal of their number
above_is_decimal : (word : Word) → starts_above_zero word ≡ true → value_of_digits word < 10 ^ 64 → word ≡ decimal (value_of_digits word)
above_is_decimal [] e small = absurd (cc)
above_is_decimal (d ∷ ds) e small =
    let parts = and_parts (not (d == zero_digit)) (list_all is_ascii_digit (d ∷ ds)) e in
    let digits = and_parts (is_ascii_digit d) (list_all is_ascii_digit ds) parts.1 in
    let size = digit_is d digits.0 in
    let first : 48 + step 0 d ≡ d = omega (arith, size.0) in
    let one : decimal (step 0 d) ≡ d ∷ [] = decimal_digit (step 0 d) (omega (arith, size.1)) ∙ ap (λ (b : ℕ). b ∷ []) first in
    sym (decimal_behind (step 0 d) ds (first_above d parts.0 size.0) digits.1 small ∙ ap (λ (l : List ℕ). l ++ ds) one)

-- a word that spells a natural number is its decimal
natural_is_decimal : (word : Word) (n : ℕ) → natural_spelled word ≡ Some n → n < 10 ^ 64 → word ≡ decimal n
natural_is_decimal word n e small =
    let h = some_if (spells_zero word || starts_above_zero word) (value_of_digits word) n e in
    ⊎_elim (λ z. by_zero z h.1) (λ a. above_is_decimal word a (subst (λ (k : ℕ). k < 10 ^ 64) (sym h.1) small) ∙ ap decimal h.1) (or_cases (spells_zero word) (starts_above_zero word) h.0)
  where
    by_zero : spells_zero word ≡ true → value_of_digits word ≡ n → word ≡ decimal n
    by_zero z is =
        let same : word ≡ zero_digit ∷ [] = (bytes_eq-Decides word (zero_digit ∷ [])).0 z in
        let none : 0 ≡ n = ap value_of_digits (sym same) ∙ is in
        same ∙ sym (decimal_digit 0 (omega arith)) ∙ ap decimal none

-- the digits behind a minus sign, which stand for a number above 0
negative_is_decimal : (ds : Word) (n : Option ℕ) (v : ℤ) → natural_spelled ds ≡ n → as_negative n ≡ Some v → nat_abs v < 10 ^ 64 → 45 ∷ ds ≡ signed_decimal v
negative_is_decimal ds None v is e small = absurd (none_not_some v e)
negative_is_decimal ds (Some zero) v is e small = absurd (none_not_some v e)
negative_is_decimal ds (Some (suc n)) v is e small =
    let same : negsuc n ≡ v = same_some (negsuc n) v e in
    let size : suc n < 10 ^ 64 = subst (λ (x : ℤ). nat_abs x < 10 ^ 64) (sym same) small in
    ap (λ (l : List ℕ). 45 ∷ l) (natural_is_decimal ds (suc n) is size) ∙ ap signed_decimal same

-- a word that spells a number is its spelling
pub word_is_spelling : (word : Word) (v : ℤ) → number_spelled word ≡ Some v → nat_abs v < 10 ^ 64 → word ≡ signed_decimal v
word_is_spelling [] v e small = absurd (none_not_some v e)
word_is_spelling (b ∷ bs) v e small = by (b == minus_sign) refl e
  where
    minus_is : (b : ℕ) → (b == minus_sign) ≡ true → b ≡ 45
    minus_is b e = grind arith

    from : (o : Option ℕ) → natural_spelled (b ∷ bs) ≡ o → as_whole o ≡ Some v → b ∷ bs ≡ signed_decimal v
    from None is e = absurd (none_not_some v e)
    from (Some n) is e =
        let same : pos n ≡ v = same_some (pos n) v e in
        let size : n < 10 ^ 64 = subst (λ (x : ℤ). nat_abs x < 10 ^ 64) (sym same) small in
        natural_is_decimal (b ∷ bs) n is size ∙ ap signed_decimal same

    by : (test : Bool) → (b == minus_sign) ≡ test → elim test as (λ _. Option ℤ) [ true ↦ as_negative (natural_spelled bs) | false ↦ as_whole (natural_spelled (b ∷ bs)) ] ≡ Some v → b ∷ bs ≡ signed_decimal v
    by true is e = ap (λ (c : ℕ). c ∷ bs) (minus_is b is) ∙ negative_is_decimal bs (natural_spelled bs) v refl e small
    by false is e = from (natural_spelled (b ∷ bs)) refl e
