-- Powers of two and split points.
use Rattle.std.proofs.Common.{◌≡◌, ℕ, zero, suc, ◌+◌, ◌*◌, ◌<◌, ◌≤◌, cond, arith, refl, ap, sym, pow_pos, pow_mono, pow-suc}
use Rattle.std.proofs.lemmas.Bool.{cases_lt, cases_order, lt-ltb, le-ltb}
use Rattle.std.proofs.Common.{inl, inr, subst}
use Rattle.rp_seal.specs.Merkle.{IsPowerOfTwo, IsSplitPoint, doubled_below, split_point}

-- 1 is a power of two
pub power-one : IsPowerOfTwo 1
power-one = (0, refl)

-- the double of a power of two is one
pub power-double : (k : ℕ) → IsPowerOfTwo k → IsPowerOfTwo (2 * k)
power-double k (e, is) = (suc e, let step = pow-suc 2 e in omega (arith, step, is))

-- a power of two is above 0
pub power-pos : (k : ℕ) → IsPowerOfTwo k → 0 < k
power-pos k (e, is) = let p = pow_pos e in omega (arith, p, is)

-- of two different powers of two the greater one is at least the double of the other
pub power-gap : (p q : ℕ) → IsPowerOfTwo p → IsPowerOfTwo q → p < q → 2 * p ≤ q
power-gap p q (d, p_is) (e, q_is) below =
    elim (cases_lt d e) [
      | inl up ↦ let up' : suc d ≤ e = omega arith in let m = pow_mono {i = suc d} {j = e} up' in let step = pow-suc 2 d in omega (arith, m, step, p_is, q_is)
      | inr down ↦ let m = pow_mono {i = e} {j = d} down in absurd (omega (arith, m, p_is, q_is, below))
    ]

-- there is one split point at most
pub split-unique : (n j k : ℕ) → IsSplitPoint n j → IsSplitPoint n k → j ≡ k
split-unique n j k a b =
    elim (cases_order j k) [
      | inl same ↦ same
      | inr other ↦ elim other [
        | inl under ↦ let g = power-gap j k a.power b.power under in let x = a.largest in let y = b.below in absurd (omega (arith, g, x, y))
        | inr over ↦ let g = power-gap k j b.power a.power over in let x = b.largest in let y = a.below in absurd (omega (arith, g, x, y))
      ]
    ]

-- while the double is below n, doubling goes on
doubled_below-on : (times k n : ℕ) → 2 * k < n → doubled_below (suc times) k n ≡ doubled_below times (2 * k) n
unfolding doubled_below
doubled_below-on times k n h = ap (λ b. cond b (doubled_below times (2 * k) n) k) (lt-ltb (2 * k) n h)

-- doubling ends at a double that is not below n
doubled_below-off : (times k n : ℕ) → n ≤ 2 * k → doubled_below (suc times) k n ≡ k
unfolding doubled_below
doubled_below-off times k n h = ap (λ b. cond b (doubled_below times (2 * k) n) k) (le-ltb (2 * k) n h)

-- doubling a power of two ends at the split point, if it may go on long enough
doubled_below-split : (times k n : ℕ) → IsPowerOfTwo k → k < n → n ≤ k + times → IsSplitPoint n (doubled_below times k n)
doubled_below-split zero k n power below reach = absurd (omega arith)
doubled_below-split (suc times) k n power below reach =
    elim (cases_lt (2 * k) n) [
      | inl on ↦ subst (IsSplitPoint n) (sym (doubled_below-on times k n on))
          (doubled_below-split times (2 * k) n (power-double k power) on (let p = power-pos k power in omega (arith, p)))
      | inr off ↦ subst (IsSplitPoint n) (sym (doubled_below-off times k n off)) (record { power = power; below = below; largest = off })
    ]

-- `split_point` is the split point
pub split-is : (n : ℕ) → 1 < n → IsSplitPoint n (split_point n)
unfolding split_point
split-is n h = doubled_below-split n 1 n power-one h (omega arith)

-- the split point is `split_point`
pub split-only : (n k : ℕ) → IsSplitPoint n k → split_point n ≡ k
split-only n k is =
    let b = is.below in let p = power-pos k is.power in
    split-unique n (split_point n) k (split-is n (omega (arith, b, p))) is

-- the split point is above 0
pub split-pos : (n : ℕ) → 1 < n → 0 < split_point n
split-pos n h = power-pos (split_point n) ((split-is n h).power)

-- the split point is below n
pub split-below : (n : ℕ) → 1 < n → split_point n < n
split-below n h = (split-is n h).below
