-- Whether there are parts, as the code counts them.
use Rattle.std.proofs.Common.{◌≡◌, ℕ, ◌==◌, true, false, arith}
use Rattle.std.proofs.lemmas.Bool.Decides.{nat_tests}

-- they are none
pub are_none : (n m : ℕ) → n ≡ m → n ≡ 0 → (m == 0) ≡ true
are_none n m e h = grind (arith, nat_tests)

-- they are some
pub are_some : (n m : ℕ) → n ≡ m → (n ≡ 0 → ⊥) → (m == 0) ≡ false
are_some n m e h = grind (arith, nat_tests)
