-- Thousandths: a natural number, a point and three digits.
use Rattle.std.proofs.Common.{◌≡◌, ℕ, ◌+◌, ◌-◌, ◌*◌, ◌/◌, ◌%◌, ◌<◌, ◌≤◌, true, ◌&&◌, ◌==◌, List, [], ◌∷◌, ◌++◌, length, take, drop, Option, Some, refl, ap, ◌∙◌, arith, length-append, take-append-drop}
use Rattle.std.specs.List.{list_all}
use Rattle.std.specs.Char.{is_ascii_digit}
use Rattle.std.specs.Fmt.{decimal}
use Rattle.std.proofs.Math.Seq.{take-append_seam, drop-append_seam}
use Rattle.std.proofs.lemmas.Bool.{and_parts, and_from}
use Rattle.rp_algebra.proofs.Options.{some_if, same_some, none_not_some}
use Rattle.rp_language.specs.Grammar.{Word, zero_digit, decimal_point, value_of_digits, natural_spelled, fraction_spelled, in_thousandths, thousandths_spelled, three_digits, thousandths_text}
use Rattle.rp_language.proofs.ReadAgain.{HasNoSpace}
use Rattle.rp_language.proofs.Signed.{SpellsNaturals, GrowsBy, has_no_sign}
use Rattle.rp_language.proofs.Decimal.{digit_no_space, digit_below_ten, spelled_if, natural_no_shorter, decimals}

-- ---- three digits

-- a point and three digits spell their number
digits_read : (a b c : ℕ) → a < 10 → b < 10 → c < 10 → fraction_spelled (decimal_point ∷ (zero_digit + a) ∷ (zero_digit + b) ∷ (zero_digit + c) ∷ []) ≡ Some (100 * a + 10 * b + c)
digits_read a b c ha hb hc = spelled_if _ _ (and_from _ _ (digit_below_ten a ha) (and_from _ _ (digit_below_ten b hb) (and_from _ _ (digit_below_ten c hc) refl))) ∙ ap Some (omega arith)

-- a number below a thousand is spelled by a point and its three digits
three_digits_read : (r : ℕ) → r < 1000 → fraction_spelled (decimal_point ∷ three_digits r) ≡ Some r
three_digits_read r h = digits_read (r / 100) (r / 10 % 10) (r % 10) (omega arith) (omega arith) (omega arith) ∙ ap Some (omega arith)

-- what spells a fraction has four bytes, and stands for less than a thousand
fraction_is : (bs : List ℕ) (r : ℕ) → fraction_spelled bs ≡ Some r → (length bs ≡ 4) × (r < 1000)
fraction_is (p ∷ a ∷ b ∷ c ∷ []) r e =
    let h = some_if (p == decimal_point && list_all is_ascii_digit (a ∷ b ∷ c ∷ [])) (value_of_digits (a ∷ b ∷ c ∷ [])) r e in
    let first = and_parts _ _ (and_parts _ _ h.0).1 in
    let second = and_parts _ _ first.1 in
    let third = and_parts _ _ second.1 in
    let value = h.1 in
    (refl, below a b c r (digit_size a first.0) (digit_size b second.0) (digit_size c third.0) h.1)
  where
    digit_size : (d : ℕ) → is_ascii_digit d ≡ true → d ≤ 57
    digit_size d e = grind arith

    below : (a b c r : ℕ) → a ≤ 57 → b ≤ 57 → c ≤ 57 → value_of_digits (a ∷ b ∷ c ∷ []) ≡ r → r < 1000
    below a b c r ha hb hc e = omega arith
fraction_is _ r e = absurd (none_not_some r e)

-- ---- thousandths

-- what a word spells whose last four bytes are a point and three digits
thousandths_of : (front tail : List ℕ) → length tail ≡ 4 → thousandths_spelled (front ++ tail) ≡ in_thousandths (natural_spelled front) (fraction_spelled tail)
thousandths_of front tail e =
    let whole = length-append front tail in
    let is : length (front ++ tail) - 4 ≡ length front = omega arith in
    (λ i. in_thousandths (natural_spelled (take (is i) (front ++ tail))) (fraction_spelled (drop (is i) (front ++ tail))))
    ∙ (λ i. in_thousandths (natural_spelled (take-append_seam front tail i)) (fraction_spelled (drop-append_seam front tail i)))

-- the parts of a word that spells thousandths
record AreThousandths (word : Word) (n : ℕ) : Type 0 where
  front : Word
  units : ℕ
  spelled : natural_spelled front ≡ Some units
  long : length word ≡ length front + 4
  below : n < (units + 1) * 1000

-- what spells thousandths
thousandths_are : (word : Word) (n : ℕ) → thousandths_spelled word ≡ Some n → AreThousandths word n
thousandths_are word n e = from (natural_spelled front) (fraction_spelled tail) refl refl e
  where
    front : Word
    front = take (length word - 4) word

    tail : Word
    tail = drop (length word - 4) word

    from : (o r : Option ℕ) → natural_spelled front ≡ o → fraction_spelled tail ≡ r → in_thousandths o r ≡ Some n → AreThousandths word n
    from (Some k) (Some r) is rest e =
        let fraction = fraction_is tail r rest in
        let whole = ap length (take-append-drop (length word - 4) word) in
        let parts = length-append front tail in
        let value = same_some (k * 1000 + r) n e in
        record { front = front; units = k; spelled = is; long = omega arith; below = omega arith }
    from _ _ is rest e = absurd (none_not_some n e)

-- a word without a minus sign in front of other bytes
unsigned_front : (word rest : Word) → has_no_sign word ≡ true → has_no_sign (word ++ rest) ≡ true
unsigned_front [] rest e = absurd (cc)
unsigned_front (b ∷ bs) rest e = e

-- a word without a space in front of one
plain_front : (word rest : Word) → HasNoSpace word → HasNoSpace rest → HasNoSpace (word ++ rest)
plain_front [] rest h k = k
plain_front (b ∷ bs) rest h k = (h.0, plain_front bs rest h.1 k)

-- natural numbers are spelled by thousandths
pub thousandths : SpellsNaturals thousandths_spelled thousandths_text
thousandths = record {
  reads = λ n small.
      thousandths_of (decimal (n / 1000)) (decimal_point ∷ three_digits (n % 1000)) refl
      ∙ (λ i. in_thousandths (decimals.reads (n / 1000) (omega arith) i) (three_digits_read (n % 1000) (omega arith) i)) ∙ ap Some (omega arith);
  unsigned = λ n small. unsigned_front (decimal (n / 1000)) _ (decimals.unsigned (n / 1000) (omega arith));
  plain = λ n small. plain_front (decimal (n / 1000)) _ (decimals.plain (n / 1000) (omega arith)) (refl, (digit_no_space _, (digit_no_space _, (digit_no_space _, tt))));
}

-- thousandths of a number have four bytes more than its decimal in units
text_length : (n : ℕ) → length (thousandths_text n) ≡ length (decimal (n / 1000)) + 4
text_length n = length-append (decimal (n / 1000)) (decimal_point ∷ three_digits (n % 1000))

-- thousandths in the place of thousandths are no longer
pub thousandths_grow : GrowsBy 0 thousandths_spelled thousandths_text
thousandths_grow word m n e le small =
    let t = thousandths_are word n e in
    let below = t.below in
    let front = natural_no_shorter t.front (m / 1000) t.units t.spelled (omega arith) (omega arith) in
    let long = t.long in
    let text = text_length m in
    omega (arith, front.1)

-- thousandths in the place of a decimal are at most three times as long
pub thousandths_from_decimal : GrowsBy 2 natural_spelled thousandths_text
thousandths_from_decimal word m n e le small =
    let front = natural_no_shorter word (m / 1000) n e (omega arith) (omega arith) in
    let text = text_length m in
    omega (arith, front.0, front.1)
