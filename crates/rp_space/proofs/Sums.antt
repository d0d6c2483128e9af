-- Sums of multiples, term by term, and their sizes.
use Rattle.std.proofs.Common.{◌≡◌, ℕ, ◌+◌, ◌*◌, ◌^◌, ◌<◌, ◌≤◌, ℤ, pos, ◌+ℤ◌, ◌*ℤ◌, unsigned_abs, true, List, length, get_or, drop, sym, ap, ◌∙◌, arith}
use Rattle.std.specs.Prelude.{int_le}
use Rattle.std.proofs.lemmas.Int.{ints}
use Rattle.std.proofs.lemmas.List.{drop_more}
use Rattle.rp_algebra.specs.Within.{IsWithin}
use Rattle.rp_algebra.proofs.IntLaws.{linear, abs_add_le}
use Rattle.rp_algebra.proofs.Tests.{and_first, and_second, at_most_is}
use Rattle.rp_geometry.specs.Geometry.{HalfSpace}
use Rattle.rp_geometry.specs.searches.Certificate.{Multiple, weighted_sum, is_multiplier, multiplier_bound}

-- a multiplier is below 2 ^ 75
pub multiplier_within : (v : ℤ) → is_multiplier v ≡ true → IsWithin (2 ^ 75) v
multiplier_within v e =
    let low = at_most_is (pos 1) v (and_first _ _ e) in
    let high = at_most_is v multiplier_bound (and_second (int_le (pos 1) v) _ e) in
    record { abs_le = omega (arith, ints, low, high) }

-- a multiple comes to the sum, and is left out of what is left
pub sum_more : (f : HalfSpace → ℤ) (ts : List Multiple) (i : ℕ) (t : Multiple) (s v : ℤ) → i < length ts → t ≡ get_or ts i t → v ≡ t.factor *ℤ f t.of
    → s +ℤ weighted_sum f (drop i ts) ≡ weighted_sum f ts → s +ℤ v +ℤ weighted_sum f (drop (i + 1) ts) ≡ weighted_sum f ts
sum_more f ts i t s v l is e h =
    let rest = weighted_sum f (drop (i + 1) ts) in
    let next : weighted_sum f (drop i ts) ≡ v +ℤ rest = ap (weighted_sum f) (drop_more ts i t l) ∙ (λ j. (sym is j).factor *ℤ f (sym is j).of +ℤ rest) ∙ (λ j. sym e j +ℤ rest) in
    omega (arith, linear, h, next)

-- the size of a sum grows by that of a multiple at most
pub size_more : (m i : ℕ) (s v : ℤ) → unsigned_abs s ≤ i * m → IsWithin m v → unsigned_abs (s +ℤ v) ≤ (i + 1) * m
size_more m i s v a b = let most = abs_add_le s v (i * m) m a b.abs_le in grind (arith, most)
