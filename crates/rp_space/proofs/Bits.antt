-- The bits of numbers as sets of places.
use Rattle.std.proofs.Common.{◌≡◌, ℕ, zero, suc, ◌+◌, ◌-◌, ◌*◌, ◌/◌, ◌%◌, ◌^◌, ◌<◌, ◌≤◌, ⊎_elim, Bool, true, false, cond, List, [], ◌∷◌, length, refl, sym, ap, ◌∙◌, arith, lt_of_le_of_lt}
use Rattle.std.specs.Prelude.{Option, Some, None, bit_and, min}
use Rattle.std.specs.Int.{bit_at, trailing_zeros, w128}
use Rattle.std.specs.List.{slice_get}
use Rattle.std.proofs.lemmas.Bool.{cases_lt}
use Rattle.std.proofs.Math.Nat.{pow-suc}
use Rattle.std.proofs.lemmas.Nat.{shr-shr, shr_le, pow_pos, div-add-mod', div-mul-add}
use Rattle.std.proofs.lemmas.Nat.Bits.{bit_at-trailing_zeros, bit_at_above, bit_at-zero, bit_at_and, bit_at_cat_low, bit_at_lowest, bit_at-suc}
use Rattle.rp_space.specs.Places.{bits_of, IsLowestFrom}

-- a bit of a number that was moved down
shifted_bit : (n k d : ℕ) → bit_at (n / 2 ^ k) d ≡ bit_at n (k + d)
shifted_bit n k d = ap (λ (x : ℕ). x % 2) (shr-shr n k d)

-- a bit from k on, as one of the number that was moved down
pub bit_from : (n k i : ℕ) → k ≤ i → bit_at n i ≡ bit_at (n / 2 ^ k) (i - k)
bit_from n k i h = let e : k + (i - k) ≡ i = omega (arith, h) in sym (shifted_bit n k (i - k) ∙ ap (bit_at n) e)

-- where nothing is left, there is no bit from k on
pub none_from : (n k : ℕ) → n / 2 ^ k ≡ 0 → (i : ℕ) → k ≤ i → bit_at n i ≡ 0
none_from n k e i h = bit_from n k i h ∙ ap (λ (x : ℕ). bit_at x (i - k)) e ∙ bit_at-zero (i - k)

-- a bit of a number of 128 bits is below 128
pub set_below : (n i : ℕ) → n < 2 ^ 128 → bit_at n i ≡ 1 → i < 128
set_below n i h e = ⊎_elim (λ (l : i < 128). l) (λ (l : 128 ≤ i). absurd (one_not_zero (sym (bit_at_above n 128 i h l) ∙ e))) (cases_lt i 128)
  where
    one_not_zero : 0 ≡ suc 0 → ⊥
    one_not_zero e = cc

-- where something is left, its trailing zeros lead to the lowest bit from k on
pub lowest_is : (n k : ℕ) → n < 2 ^ 128 → 0 < n / 2 ^ k → IsLowestFrom n k (k + trailing_zeros w128 (n / 2 ^ k))
lowest_is n k h p =
    let r = n / 2 ^ k in
    let small : r < 2 ^ 128 = lt_of_le_of_lt (shr_le n k) h in
    let t = bit_at-trailing_zeros w128 r p small in
    let z = trailing_zeros w128 r in
    let set : bit_at n (k + z) ≡ 1 = sym (shifted_bit n k z) ∙ t.1 in
    record {
      from_on = omega arith;
      below = set_below n (k + z) h set;
      is_in = set;
      none = λ i a b. bit_from n k i a ∙ t.2 (i - k) (less i k z a b);
    }
  where
    less : (i k z : ℕ) → k ≤ i → i < k + z → i - k < z
    less i k z a b = omega (arith, a, b)

-- where a number is no multiple of another, one less has the same quotient
less_one : (n m : ℕ) → 0 < m → 0 < n % m → (n - 1) / m ≡ n / m
less_one n m p h =
    let s = div-add-mod' n m in
    let r : n % m < m = omega (arith, p) in
    let e : n - 1 ≡ n / m * m + (n % m - 1) = (let x = n / m * m in omega (arith, s, h)) in
    ap (λ (x : ℕ). x / m) e ∙ div-mul-add (n / m) m (n % m - 1) (omega (arith, r))

-- a set with two places has one behind its lowest: above a place, one less has the same bits
pub two_bits : (n i j : ℕ) → i < j → bit_at n i ≡ 1 → bit_at n j ≡ 1 → bit_and n (n - 1) ≡ 0 → ⊥
two_bits n i j l ei ej z = one_not_zero (sym one ∙ ap (λ (m : ℕ). bit_at m j) z ∙ bit_at-zero j)
  where
    one_not_zero : suc 0 ≡ 0 → ⊥
    one_not_zero e = cc

    low : n % 2 ^ j ≡ 0 → bit_at n i ≡ 0
    low e = ap (λ (m : ℕ). bit_at m i) (sym (div-add-mod' n (2 ^ j))) ∙ bit_at_cat_low (n / 2 ^ j) j (n % 2 ^ j) i l ∙ ap (λ (m : ℕ). bit_at m i) e ∙ bit_at-zero i

    some : (r : ℕ) → n % 2 ^ j ≡ r → 0 < r
    some zero e = absurd (one_not_zero (sym ei ∙ low e))
    some (suc r) e = omega arith

    same : bit_at (n - 1) j ≡ bit_at n j
    same = ap (λ (x : ℕ). x % 2) (less_one n (2 ^ j) (pow_pos j) (some (n % 2 ^ j) refl))

    one : bit_at (bit_and n (n - 1)) j ≡ 1
    one = bit_at_and n (n - 1) j ∙ (λ t. min (ej t) ((same ∙ ej) t))

-- ---- the places of a list whose members pass a test

-- the bit of a member, or of none
abbrev pub bit_of : {A : Type 0} → (A → Bool) → Option A → ℕ
bit_of test None = 0
bit_of test (Some x) = cond (test x) 1 0

-- twice a number and a bit, as the number and its lowest bit
halved : (n : ℕ) (b : Bool) → (2 * n + cond b 1 0) / 2 ≡ n
halved n true = omega arith
halved n false = omega arith

-- the lowest bit
lowest : (n : ℕ) (b : Bool) → (2 * n + cond b 1 0) % 2 ≡ cond b 1 0
lowest n true = omega arith
lowest n false = omega arith

-- the bits of a list
pub bits_of-bit : {A : Type 0} (test : A → Bool) (xs : List A) (i : ℕ) → bit_at (bits_of test xs) i ≡ bit_of test (slice_get xs i)
bits_of-bit test [] i = bit_at-zero i
bits_of-bit test (x ∷ xs) zero = bit_at_lowest (2 * bits_of test xs + cond (test x) 1 0) ∙ lowest (bits_of test xs) (test x)
bits_of-bit test (x ∷ xs) (suc i) =
    bit_at-suc (2 * bits_of test xs + cond (test x) 1 0) i ∙ ap (λ (n : ℕ). bit_at n i) (halved (bits_of test xs) (test x)) ∙ bits_of-bit test xs i

-- a list has no bit from its length on
pub bits_of-small : {A : Type 0} (test : A → Bool) (xs : List A) (k : ℕ) → length xs ≤ k → bits_of test xs < 2 ^ k
bits_of-small test [] k h = pow_pos k
bits_of-small test (x ∷ xs) zero h = absurd (omega (arith, h))
bits_of-small test (x ∷ xs) (suc k) h = rw pow-suc (twice (bits_of test xs) (test x) (2 ^ k) (bits_of-small test xs k (omega (arith, h))))
  where
    twice : (n : ℕ) (b : Bool) (m : ℕ) → n < m → 2 * n + cond b 1 0 < m * 2
    twice n true m h = omega arith
    twice n false m h = omega arith
