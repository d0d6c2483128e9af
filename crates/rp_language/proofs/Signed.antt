-- Whole numbers, spelled by natural numbers behind an optional minus sign.
use Rattle.std.proofs.Common.{◌≡◌, ℕ, zero, suc, ◌*◌, ◌^◌, ◌<◌, ◌≤◌, Bool, true, false, not, ◌==◌, ℤ, pos, negsuc, nat_abs, ◌≤ℤ◌, List, [], ◌∷◌, length, Option, Some, None, refl, sym, ap, ◌∙◌, subst, arith}
use Rattle.std.proofs.lemmas.Int.{ints}
use Rattle.rp_algebra.proofs.Options.{same_some, none_not_some}
use Rattle.rp_geometry.proofs.InLowestTerms.{IsNoGreater}
use Rattle.rp_language.specs.Grammar.{Word, minus_sign, as_whole, as_negative, signed, signed_text}
use Rattle.rp_language.proofs.ReadAgain.{HasNoSpace}

-- a word of one byte at least, which does not begin with a minus sign
abbrev pub has_no_sign : Word → Bool
has_no_sign [] = false
has_no_sign (b ∷ bs) = not (b == minus_sign)

-- the text of a natural number is a word that spells it
pub record SpellsNaturals (spelled : Word → Option ℕ) (text : ℕ → List ℕ) : Type 0 where
  pub reads : (n : ℕ) → n < 10 ^ 64 → spelled (text n) ≡ Some n
  pub unsigned : (n : ℕ) → n < 10 ^ 64 → has_no_sign (text n) ≡ true
  pub plain : (n : ℕ) → n < 10 ^ 64 → HasNoSpace (text n)

-- the text of a number that is no greater than the number of a word is at most 1 + extra times as long, with a space behind each
abbrev pub GrowsBy : ℕ → (Word → Option ℕ) → (ℕ → List ℕ) → Type 0
GrowsBy extra spelled text = (word : Word) (m n : ℕ) → spelled word ≡ Some n → m ≤ n → m < 10 ^ 64 → suc (length (text m)) ≤ suc extra * suc (length word)

-- a word without a minus sign spells a natural number
signed-no_sign : (spelled : Word → Option ℕ) (word : Word) → has_no_sign word ≡ true → signed spelled word ≡ as_whole (spelled word)
signed-no_sign spelled [] e = absurd (cc)
signed-no_sign spelled (b ∷ bs) e = by (b == minus_sign) e
  where
    by : (test : Bool) → not test ≡ true → elim test as (λ _. Option ℤ) [ true ↦ as_negative (spelled bs) | false ↦ as_whole (spelled (b ∷ bs)) ] ≡ as_whole (spelled (b ∷ bs))
    by false e = refl
    by true e = absurd (cc)

-- the text of a whole number spells it
pub signed_reads : {spelled : Word → Option ℕ} {text : ℕ → List ℕ} → SpellsNaturals spelled text → (v : ℤ) → nat_abs v < 10 ^ 64 → signed spelled (signed_text text v) ≡ Some v
signed_reads {spelled} {text} s (pos n) small = signed-no_sign spelled (text n) (s.unsigned n small) ∙ ap as_whole (s.reads n small)
signed_reads s (negsuc n) small = ap as_negative (s.reads (suc n) small)

-- the text of a whole number has no space
pub signed_plain : {spelled : Word → Option ℕ} {text : ℕ → List ℕ} → SpellsNaturals spelled text → (v : ℤ) → nat_abs v < 10 ^ 64 → HasNoSpace (signed_text text v)
signed_plain s (pos n) small = s.plain n small
signed_plain s (negsuc n) small = (refl, s.plain (suc n) small)

-- the text of a whole number has at most one byte more than that of its size
signed_length : (text : ℕ → List ℕ) (v : ℤ) → length (signed_text text v) ≤ suc (length (text (nat_abs v)))
signed_length text (pos n) = omega arith
signed_length text (negsuc n) = omega arith

-- the text of a number that stands in for the number of a word grows as those of natural numbers do
pub signed_grows : (extra : ℕ) (spelled : Word → Option ℕ) (text : ℕ → List ℕ) → GrowsBy extra spelled text
    → (word : Word) (u v : ℤ) → signed spelled word ≡ Some v → IsNoGreater u v → nat_abs u < 10 ^ 64 → suc (length (signed_text text u)) ≤ suc extra * suc (length word)
signed_grows extra spelled text g [] u v e h small = absurd (none_not_some v e)
signed_grows extra spelled text g (b ∷ bs) u v e h small = by_sign (b == minus_sign) e
  where
    negative : (o : Option ℕ) → spelled bs ≡ o → as_negative o ≡ Some v → suc (length (signed_text text u)) ≤ suc extra * suc (length (b ∷ bs))
    negative None is e = absurd (none_not_some v e)
    negative (Some zero) is e = absurd (none_not_some v e)
    negative (Some (suc n)) is e =
        let size : nat_abs u ≤ suc n = subst (λ (x : ℤ). nat_abs u ≤ nat_abs x) (sym (same_some (negsuc n) v e)) h.size in
        let grown = g bs (nat_abs u) (suc n) is size small in
        let signed = signed_length text u in
        omega arith

    whole : (u : ℤ) (n : ℕ) → spelled (b ∷ bs) ≡ Some n → IsNoGreater u (pos n) → nat_abs u < 10 ^ 64 → suc (length (signed_text text u)) ≤ suc extra * suc (length (b ∷ bs))
    whole (pos m) n is h small = g (b ∷ bs) m n is h.size small
    whole (negsuc m) n is h small = absurd (let k : pos 0 ≤ℤ negsuc m = h.sign (omega (arith, ints)) in omega (arith, ints))

    natural : (o : Option ℕ) → spelled (b ∷ bs) ≡ o → as_whole o ≡ Some v → suc (length (signed_text text u)) ≤ suc extra * suc (length (b ∷ bs))
    natural None is e = absurd (none_not_some v e)
    natural (Some n) is e = whole u n is (subst (λ (x : ℤ). IsNoGreater u x) (sym (same_some (pos n) v e)) h) small

    by_sign : (test : Bool) → elim test as (λ _. Option ℤ) [ true ↦ as_negative (spelled bs) | false ↦ as_whole (spelled (b ∷ bs)) ] ≡ Some v → suc (length (signed_text text u)) ≤ suc extra * suc (length (b ∷ bs))
    by_sign true e = negative (spelled bs) refl e
    by_sign false e = natural (spelled (b ∷ bs)) refl e
