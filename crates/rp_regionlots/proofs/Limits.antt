-- Counts of tests that pass the limit.
use Rattle.std.proofs.Common.{◌≡◌, ℕ, ◌+◌, ◌<◌, ◌≤◌, Bool, true, false, refl, arith}
use Rattle.std.specs.Prelude.{nat_le}
use Rattle.std.proofs.lemmas.Bool.Decides.{nat_tests}
use Rattle.rp_semantics.specs.Walk.{Outcome, done, stopped, limit_met, Work, most_tests, count_tests}

-- a count above the limit is stopped at any work
pub too_many : (n : ℕ) (w : Work) → most_tests < n → count_tests n w ≡ stopped limit_met w
too_many n w h = by (nat_le (w.tests + n) most_tests) refl
  where
    by : (b : Bool) → nat_le (w.tests + n) most_tests ≡ b → (elim b as (λ _. Outcome Work (Unit {0})) [ true ↦ done tt (record { tests = w.tests + n; proofs = w.proofs }) | false ↦ stopped limit_met w ]) ≡ stopped limit_met w
    by true f = absurd (let few : w.tests + n ≤ most_tests = grind (arith, nat_tests) in omega (arith, few, h))
    by false f = refl
