-- The greatest common divisor of multipliers is above 0 and keeps their bound.
use Rattle.std.proofs.Common.{◌≡◌, ◌<◌, ◌^◌, ◌-◌, get_or, take, drop, nat_abs, sym, ◌∙◌, pos, ◌≤ℤ◌, true, List, [], ◌∷◌, length, arith}
use Rattle.std.specs.Prelude.{int_le}
use Rattle.std.specs.List.{list_all}
use Rattle.std.proofs.lemmas.Int.{ints}
use Rattle.std.proofs.lemmas.List.{take_all}
use Rattle.rp_algebra.specs.Integer.{gcd, gcd_of}
use Rattle.rp_algebra.proofs.Divisors.{gcd_of-nil, gcd_of-cons, gcd_of-positive_head, gcd_of-at_most_head}
use Rattle.rp_algebra.proofs.Numbers.{above_not_zero}
use Rattle.rp_algebra.proofs.Tests.{and_first, and_second, at_most_is}
use Rattle.rp_geometry.specs.searches.Certificate.{Multiple, is_multiplier}
use Rattle.rp_geometry.specs.searches.Elimination.{factors_of}
use Rattle.rp_convex.proofs.Tests.{multiplier-to}

-- the divisor is above 0
pub divisor_above : (ts : List Multiple) → 0 < length ts → list_all (λ t. is_multiplier t.factor) ts ≡ true → 0 < gcd_of (factors_of ts)
divisor_above [] n e = absurd (omega arith)
divisor_above (t ∷ ts) n e = gcd_of-positive_head t.factor (factors_of ts) (above_not_zero t.factor (multiplier-to t.factor (and_first (is_multiplier t.factor) _ e)))

-- the divisor is at most as great as a multiplier
pub divisor_below : (ts : List Multiple) → 0 < length ts → list_all (λ t. is_multiplier t.factor) ts ≡ true → gcd_of (factors_of ts) < 2 ^ 127
divisor_below [] n e = absurd (omega arith)
divisor_below (t ∷ ts) n e =
    let m = and_first (is_multiplier t.factor) _ e in
    let above = multiplier-to t.factor m in
    let below : t.factor ≤ℤ pos 37778931862957161709567 = at_most_is t.factor (pos 37778931862957161709567) (and_second (int_le (pos 1) t.factor) (int_le t.factor (pos 37778931862957161709567)) m) in
    let most = gcd_of-at_most_head t.factor (factors_of ts) (above_not_zero t.factor above) in
    omega (arith, ints, above, below, most)

-- the divisor of no multipliers is 0
pub divisor_none : (ts : List Multiple) → length ts < 1 → 0 ≡ gcd_of (factors_of ts)
divisor_none [] n = sym gcd_of-nil
divisor_none (t ∷ ts) n = absurd (omega arith)

-- the divisor of the others and of the first multiplier is that of all
pub divisor_more : (ts : List Multiple) (t : Multiple) → 0 < length ts → t ≡ get_or ts 0 t → gcd (gcd_of (factors_of (take (length ts - 1) (drop 1 ts)))) (nat_abs t.factor) ≡ gcd_of (factors_of ts)
divisor_more [] t n e = absurd (omega arith)
divisor_more (u ∷ us) t n e =
    let rest : take (length (u ∷ us) - 1) us ≡ us = take_all (length (u ∷ us) - 1) us (omega arith) in
    (λ i. gcd (gcd_of (factors_of (rest i))) (nat_abs ((e i).factor))) ∙ sym (gcd_of-cons u.factor (factors_of us))
