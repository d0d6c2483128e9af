-- Numbers held at a size: the digits that are left lead to the same.
use Rattle.std.proofs.Common.{◌≡◌, ℕ, ◌+◌, ◌*◌, ◌-◌, ◌^◌, ◌<◌, ◌≤◌, min, List, [], ◌∷◌, length, drop, get_or, ap, ◌∙◌, sym, arith, fold}
use Rattle.std.proofs.Math.Nat.{pow-le-pow_right}
use Rattle.std.proofs.Math.Seq.{drop-cons}
use Rattle.std.proofs.Common.{add-one}
use Rattle.rp_command.specs.Held.{most_held}

-- one more digit
abbrev pub step : ℕ → ℕ → ℕ
step n d = 10 * n + (d - 48)

-- holding before a digit changes nothing
step-held : (v d : ℕ) → min (step (min v most_held) d) most_held ≡ min (step v d) most_held
step-held v d = omega arith

-- holding before digits changes nothing
pub fold-held : (v : ℕ) (ds : List ℕ) → min (fold step (min v most_held) ds) most_held ≡ min (fold step v ds) most_held
fold-held v [] = omega arith
fold-held v (d ∷ ds) =
    sym (fold-held (step (min v most_held) d) ds) ∙ ap (λ (n : ℕ). min (fold step n ds) most_held) (step-held v d) ∙ fold-held (step v d) ds

-- the list from a place on begins with the item there
drop-at : (i : ℕ) (ds : List ℕ) → i < length ds → drop i ds ≡ get_or ds i 0 ∷ drop (i + 1) ds
drop-at i ds h = rw add-one (drop-cons ds i 0 h)

-- one digit is taken
pub fold-taken : (v i : ℕ) (ds : List ℕ) → i < length ds → min (fold step (min (step v (get_or ds i 0)) most_held) (drop (i + 1) ds)) most_held ≡ min (fold step v (drop i ds)) most_held
fold-taken v i ds h =
    fold-held (step v (get_or ds i 0)) (drop (i + 1) ds) ∙ sym (ap (λ (xs : List ℕ). min (fold step v xs) most_held) (drop-at i ds h))

-- one more of at most 17 digits keeps the number in 64 bits
pub short-digit : (v d i : ℕ) → v + 29 ≤ 29 * 10 ^ i → i < 17 → d < 256 → 10 * v + d < 18446744073709551616
short-digit v d i small few byte =
    let power : 10 ^ i ≤ 10 ^ 16 = pow-le-pow_right {n = 10} (omega arith) {i = i} {j = 16} (omega (arith, few)) in
    omega (arith, small, power, byte)
