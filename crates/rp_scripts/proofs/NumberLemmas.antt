-- The whole number that a word spells, held at a size, and the natural number between bounds.
use Rattle.std.proofs.Common.{◌≡◌, ℕ, zero, suc, ◌<◌, ◌≤◌, Bool, true, false, ◌&&◌, min, List, [], ◌∷◌, Option, Some, None, refl, sym, ap, ◌∙◌, subst, arith}
use Rattle.std.specs.Prelude.{ℤ, pos, negsuc, neg_ℤ, nat_abs, ◌≤ℤ◌, nat_le, option_and_then, ◌==◌}
use Rattle.std.specs.Option.{option_map}
use Rattle.std.proofs.lemmas.Bool.Decides.{nat_tests}
use Rattle.std.proofs.lemmas.Int.{ints}
use Rattle.rp_language.specs.Grammar.{minus_sign, natural_spelled, as_negative, as_whole, number_spelled}
use Rattle.rp_reports.specs.Output.{number_between}
use Rattle.rp_command.specs.Held.{held, most_held}

-- a natural number within its bounds
abbrev pub bounded : ℕ → ℕ → ℕ → Option ℕ
bounded least greatest n = elim (nat_le least n && nat_le n greatest) [ true ↦ Some n | false ↦ None ]

-- a whole number within bounds that are natural ones
abbrev pub whole_between : ℕ → ℕ → Option ℤ → Option ℕ
whole_between least greatest None = None
whole_between least greatest (Some (pos n)) = bounded least greatest n
whole_between least greatest (Some (negsuc n)) = None

-- a number below zero is not between natural bounds
whole_between-below : (least greatest v : ℕ) → 0 < v → whole_between least greatest (Some (neg_ℤ (pos v))) ≡ None
whole_between-below least greatest zero h = absurd (omega arith)
whole_between-below least greatest (suc v) h = refl

-- what stands behind a minus sign is not between them
negative-between : (least greatest : ℕ) (o : Option ℕ) → whole_between least greatest (option_map held (as_negative o)) ≡ None
negative-between least greatest None = refl
negative-between least greatest (Some zero) = refl
negative-between least greatest (Some (suc n)) = whole_between-below least greatest (min (suc n) most_held) (omega arith)

-- no natural number is spelled with a minus sign
natural-minus : (b : ℕ) (bs : List ℕ) → (b == minus_sign) ≡ true → natural_spelled (b ∷ bs) ≡ None
natural-minus b bs e =
    let is : b ≡ 45 = grind (arith, nat_tests) in
    subst (λ (d : ℕ). natural_spelled (d ∷ bs) ≡ None) (sym is) refl

-- a number past the greatest is not between
bounded-past : (low high : Bool) (m : ℕ) → high ≡ false → elim (low && high) as (λ _. Option ℕ) [ true ↦ Some m | false ↦ None ] ≡ None
bounded-past true true m e = absurd (cc)
bounded-past true false m e = refl
bounded-past false high m e = refl

-- holding a number changes nothing within the bounds
held-bounded : (least greatest n : ℕ) → greatest < most_held → bounded least greatest n ≡ bounded least greatest (min n most_held)
held-bounded least greatest n small = by (nat_le n most_held) refl
  where
    by : (test : Bool) → nat_le n most_held ≡ test → bounded least greatest n ≡ bounded least greatest (min n most_held)
    by true e = let same : n ≡ min n most_held = grind (arith, nat_tests) in ap (bounded least greatest) same
    by false e =
        let past : nat_le n greatest ≡ false = grind (arith, nat_tests) in
        let also : nat_le (min n most_held) greatest ≡ false = grind (arith, nat_tests) in
        bounded-past (nat_le least n) (nat_le n greatest) n past ∙ sym (bounded-past (nat_le least (min n most_held)) (nat_le (min n most_held) greatest) (min n most_held) also)

-- the number between the bounds that a word spells, by way of the whole number that it spells
pub number_between-held : (least greatest : ℕ) (word : List ℕ) → greatest < most_held → number_between least greatest word ≡ whole_between least greatest (option_map held (number_spelled word))
number_between-held least greatest [] small = refl
number_between-held least greatest (b ∷ bs) small = by (b == minus_sign) refl
  where
    from : (o : Option ℕ) → option_and_then (bounded least greatest) o ≡ whole_between least greatest (option_map held (as_whole o))
    from None = refl
    from (Some n) = held-bounded least greatest n small

    by : (test : Bool) → (b == minus_sign) ≡ test
        → number_between least greatest (b ∷ bs) ≡ whole_between least greatest (option_map held (elim test as (λ _. Option ℤ) [ true ↦ as_negative (natural_spelled bs) | false ↦ as_whole (natural_spelled (b ∷ bs)) ]))
    by true e = ap (option_and_then (bounded least greatest)) (natural-minus b bs e) ∙ sym (negative-between least greatest (natural_spelled bs))
    by false e = from (natural_spelled (b ∷ bs))

-- a whole number that a word spells, between bounds, is the number of the word
pub number_between-some : (least greatest : ℕ) (word : List ℕ) (v : ℤ) → greatest < most_held → Some v ≡ option_map held (number_spelled word) → pos least ≤ℤ v → v ≤ℤ pos greatest
    → Some (nat_abs v) ≡ number_between least greatest word
number_between-some least greatest word v small e low high = by v low high ∙ ap (whole_between least greatest) e ∙ sym (number_between-held least greatest word small)
  where
    inside : (n : ℕ) (both : Bool) → both ≡ true → Some n ≡ elim both as (λ _. Option ℕ) [ true ↦ Some n | false ↦ None ]
    inside n true e = refl
    inside n false e = absurd (cc)

    by : (v : ℤ) → pos least ≤ℤ v → v ≤ℤ pos greatest → Some (nat_abs v) ≡ whole_between least greatest (Some v)
    by (pos n) low high =
        let least_is : least ≤ n = omega (arith, ints) in
        let greatest_is : n ≤ greatest = omega (arith, ints) in
        inside n (nat_le least n && nat_le n greatest) (grind (arith, nat_tests))
    by (negsuc n) low high = absurd (omega (arith, ints))
