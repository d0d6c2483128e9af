-- The binary method for greatest common divisors: factors 2 are taken out, and the less of two odd numbers away from the other.
use Rattle.std.proofs.Common.{◌≡◌, ℕ, ℤ, zero, suc, ◌+◌, ◌-◌, ◌*◌, ◌/◌, ◌%◌, ◌^◌, ◌<◌, ◌≤◌, ⊎_elim, sym, ap, ◌∙◌, subst, arith}
use Rattle.std.specs.Int.{◌∣◌, Width, bit_at, trailing_zeros, w128}
use Rattle.std.proofs.lemmas.Bool.{cases_lt}
use Rattle.std.proofs.Math.Nat.{one-dvd, dvd-add, dvd-add_iff_right, dvd-mul_left_of_dvd, mul-dvd-mul_left}
use Rattle.std.proofs.lemmas.Int.{ints}
use Rattle.std.proofs.lemmas.Nat.{shr-shr, shr_le, pow_pos, div-add-mod'}
use Rattle.std.proofs.lemmas.Nat.Bits.{bit_at_lowest, bit_at-suc, bit_at-trailing_zeros, bit_at_above, bit_at-zero, bit_at_cat_low, same_from_bits}
use mir.Val.{bits}
use Rattle.rp_algebra.specs.Integer.{gcd, reduced_by}
use Rattle.rp_algebra.proofs.Divisors.{gcd-is, gcd-unique, gcd-comm, gcd-mod, gcd-zero, gcd-times, gcd-greatest}

-- ---- one number less the other

-- 1 has no other divisor
pub gcd-one : (n : ℕ) → gcd 1 n ≡ 1
gcd-one n = gcd-unique 1 n 1 (one-dvd 1, one-dvd n, λ d h l. h)

-- a sum and one of its parts
gcd-add : (p r : ℕ) → gcd (p + r) p ≡ gcd p r
gcd-add p r =
    let g = gcd-is p r in
    gcd-unique (p + r) p (gcd p r) (dvd-add _ g.0 g.1, g.0, λ d s t. gcd-greatest d p r t ((dvd-add_iff_right d t).1 s))

-- the second number taken away from the first
pub gcd-less : (h p : ℕ) → p ≤ h → gcd p (h - p) ≡ gcd h p
gcd-less h p l = sym (gcd-add p (h - p)) ∙ ap (λ n. gcd n p) (let e : p + (h - p) ≡ h = omega arith in e)

-- the first number taken away from the second
pub gcd-more : (h p : ℕ) → h ≤ p → gcd h (p - h) ≡ gcd h p
gcd-more h p l = gcd-less p h l ∙ gcd-comm p h

-- ---- factors 2

-- an odd number has no divisor with 2 but 1
two_odd : (m : ℕ) → m % 2 ≡ 1 → gcd 2 m ≡ 1
two_odd m e = gcd-comm 2 m ∙ gcd-mod m 2 (omega arith) ∙ ap (gcd 2) e ∙ gcd-mod 2 1 (omega arith) ∙ gcd-zero 1

-- what divides an odd number divides half of each even number that it divides
divides_half : (d m n : ℕ) → m % 2 ≡ 1 → d ∣ m → d ∣ 2 * n → d ∣ n
divides_half d m n e h l =
    let t = gcd-times d n 2 m (subst (λ (k : ℕ). d ∣ k) (turned n) l) (dvd-mul_left_of_dvd d h n) in
    subst (λ (k : ℕ). d ∣ k) (ap (λ k. n * k) (two_odd m e) ∙ once n) t
  where
    turned : (n : ℕ) → 2 * n ≡ n * 2
    turned n = omega arith

    once : (n : ℕ) → n * 1 ≡ n
    once n = omega arith

-- beside an odd number a factor 2 does not count
gcd-half : (m n : ℕ) → m % 2 ≡ 1 → gcd m n ≡ gcd m (2 * n)
gcd-half m n e =
    let g = gcd-is m n in
    sym (gcd-unique m (2 * n) (gcd m n) (g.0, dvd-mul_left_of_dvd _ g.1 2, λ d h l. gcd-greatest d m n h (divides_half d m n e h l)))

-- no place below has a bit
IsClearBelow : ℕ → ℕ → Type 0
IsClearBelow n k = (i : ℕ) → i < k → bit_at n i ≡ 0

-- beside an odd number the factors 2 do not count
gcd-shifted : (k m n : ℕ) → m % 2 ≡ 1 → IsClearBelow n k → gcd m (n / 2 ^ k) ≡ gcd m n
unfolding IsClearBelow
gcd-shifted zero m n e c = ap (gcd m) (let one : n / 2 ^ 0 ≡ n = omega arith in one)
gcd-shifted (suc k) m n e c =
    let low : n % 2 ≡ 0 = sym (bit_at_lowest n) ∙ c 0 (omega arith) in
    let clear = gcd-shifted k m (n / 2) e (λ i l. sym (bit_at-suc n i) ∙ c (suc i) (omega arith)) in
    let whole : 2 * (n / 2) ≡ n = omega arith in
    ap (gcd m) (halved n k) ∙ clear ∙ gcd-half m (n / 2) e ∙ ap (gcd m) whole
  where
    halved : (n k : ℕ) → n / 2 ^ suc k ≡ n / 2 / 2 ^ k
    halved n k = ap (λ j. n / 2 ^ j) (let e : suc k ≡ 1 + k = omega arith in e) ∙ sym (shr-shr n 1 k)

-- what a shift by the trailing zeros leaves of a number above 0
module _ (w : Width) (n : ℕ) (some : 0 < n) (fits : n < 2 ^ bits w) where
  pub odd_shifted : n / 2 ^ trailing_zeros w n % 2 ≡ 1
  odd_shifted = (bit_at-trailing_zeros w n some fits).1

  pub gcd-odd_part : (m : ℕ) → m % 2 ≡ 1 → gcd m (n / 2 ^ trailing_zeros w n) ≡ gcd m n
  unfolding IsClearBelow
  gcd-odd_part m e = gcd-shifted (trailing_zeros w n) m n e (bit_at-trailing_zeros w n some fits).2

-- one step of the method: the odd part of the second number, and what is left when the less of it and the first number
-- is taken away
module _ (w : Width) (h n : ℕ) (odd : h % 2 ≡ 1) (some : 0 < n) (fits : n < 2 ^ bits w) where
  pub part_less : {g : ℕ} → n / 2 ^ trailing_zeros w n ≤ h → gcd h n ≡ g → (n / 2 ^ trailing_zeros w n % 2 ≡ 1) × (gcd (n / 2 ^ trailing_zeros w n) (h - n / 2 ^ trailing_zeros w n) ≡ g)
  part_less l e = (odd_shifted w n some fits, gcd-less h (n / 2 ^ trailing_zeros w n) l ∙ gcd-odd_part w n some fits h odd ∙ e)

  pub part_more : {g : ℕ} → h ≤ n / 2 ^ trailing_zeros w n → gcd h n ≡ g → (h % 2 ≡ 1) × (gcd h (n / 2 ^ trailing_zeros w n - h) ≡ g)
  part_more l e = (odd, gcd-more h (n / 2 ^ trailing_zeros w n) l ∙ gcd-odd_part w n some fits h odd ∙ e)

-- ---- two even numbers

-- what two doubled numbers have in common is the double
pub gcd-double : (a b : ℕ) → gcd (2 * a) (2 * b) ≡ 2 * gcd a b
gcd-double a b =
    let g = gcd-is a b in
    gcd-unique (2 * a) (2 * b) (2 * gcd a b) (mul-dvd-mul_left _ 2 g.0, mul-dvd-mul_left _ 2 g.1, λ d h l. gcd-times d 2 a b h l)

-- the same for two numbers that are known to be even
pub gcd-both_even : (a b : ℕ) → (a % 2 ≡ 1 → ⊥) → (b % 2 ≡ 1 → ⊥) → 2 * gcd (a / 2) (b / 2) ≡ gcd a b
gcd-both_even a b m n =
    let x : 2 * (a / 2) ≡ a = omega (arith, m) in
    let y : 2 * (b / 2) ≡ b = omega (arith, n) in
    sym (gcd-double (a / 2) (b / 2)) ∙ (λ i. gcd (x i) (y i))

-- ---- quotients

-- the quotient by 1 is the number
pub reduced_by-one : (v : ℤ) → v ≡ reduced_by 1 v
reduced_by-one v = omega (arith, ints)

-- half of a number of 128 bits, or less, is below 2 ^ 127
pub halves_small : (n t : ℕ) → 0 < t → n < 2 ^ 128 → n / 2 ^ t < 2 ^ 127
halves_small n zero p h = elim p [ ]
halves_small n (suc t) p h =
    let e : n / 2 ^ suc t ≡ n / 2 / 2 ^ t = ap (λ k. n / 2 ^ k) (let s : suc t ≡ 1 + t = omega arith in s) ∙ sym (shr-shr n 1 t) in
    omega (arith, e, shr_le (n / 2) t, h)

-- what stands above places that have no bit is the whole number
clear_rest : (n t : ℕ) → IsClearBelow n t → n / 2 ^ t * 2 ^ t ≡ n
unfolding IsClearBelow
clear_rest n t c = omega (arith, div-add-mod' n (2 ^ t), rest)
  where
    bit : (i : ℕ) → bit_at (n % 2 ^ t) i ≡ bit_at 0 i
    bit i =
        ⊎_elim
        (λ (l : i < t). sym (bit_at_cat_low (n / 2 ^ t) t (n % 2 ^ t) i l) ∙ ap (λ (m : ℕ). bit_at m i) (div-add-mod' n (2 ^ t)) ∙ c i l ∙ sym (bit_at-zero i))
        (λ (l : t ≤ i). bit_at_above (n % 2 ^ t) t i (omega (arith, pow_pos t)) l ∙ sym (bit_at-zero i))
        (cases_lt i t)

    rest : n % 2 ^ t ≡ 0
    rest = same_from_bits (n % 2 ^ t) 0 bit

-- the trailing zeros of a number
pub zeros_fit : (n : ℕ) → 0 < n → n < 2 ^ 127 → trailing_zeros w128 n < 128
zeros_fit n some small = (bit_at-trailing_zeros w128 n some (omega (arith, small))).0

-- a number below 2 ^ 127 of which a shift by its trailing zeros leaves 1
module _ (n : ℕ) (some : 0 < n) (small : n < 2 ^ 127) (one : n / 2 ^ trailing_zeros w128 n ≡ 1) where
  wide : n < 2 ^ 128
  wide = omega (arith, small)

  set_bit : bit_at n (trailing_zeros w128 n) ≡ 1
  set_bit = (bit_at-trailing_zeros w128 n some wide).1

  clear : IsClearBelow n (trailing_zeros w128 n)
  unfolding IsClearBelow
  clear = (bit_at-trailing_zeros w128 n some wide).2

  pub is_power : 2 ^ trailing_zeros w128 n ≡ n
  is_power =
      let once : 1 * 2 ^ trailing_zeros w128 n ≡ n = ap (λ (k : ℕ). k * 2 ^ trailing_zeros w128 n) (sym one) ∙ clear_rest n (trailing_zeros w128 n) clear in
      omega (arith, once)

  pub power_few : trailing_zeros w128 n < 127
  power_few =
      ⊎_elim (λ (l : trailing_zeros w128 n < 127). l)
      (λ (l : 127 ≤ trailing_zeros w128 n). absurd (one_not_zero (sym (bit_at_above n 127 (trailing_zeros w128 n) small l) ∙ set_bit)))
      (cases_lt (trailing_zeros w128 n) 127)
    where
      one_not_zero : 0 ≡ suc 0 → ⊥
      one_not_zero e = cc

  pub power_some : (n ≡ 1 → ⊥) → 0 < trailing_zeros w128 n
  power_some m = some_zeros (trailing_zeros w128 n) is_power
    where
      some_zeros : (t : ℕ) → 2 ^ t ≡ n → 0 < t
      some_zeros zero e = absurd (m (sym e))
      some_zeros (suc t) e = omega arith
