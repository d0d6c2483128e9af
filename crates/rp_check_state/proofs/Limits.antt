-- Counts of tests that pass the limit, on the lines of a report.
use Rattle.std.proofs.Common.{◌≡◌, ℕ, ◌+◌, ◌<◌, Bool, true, false, refl, arith}
use Rattle.std.specs.Prelude.{nat_le}
use Rattle.std.proofs.lemmas.Bool.Decides.{nat_tests}
use Rattle.rp_semantics.specs.Walk.{Outcome, done, stopped, limit_met, most_tests}
use Rattle.rp_reports.specs.Check.{Trail, follow_count}

-- more tests than a command may make are never counted
pub never_many : (n : ℕ) (t : Trail) → most_tests < n → follow_count n t ≡ stopped limit_met t
never_many n t h = by (nat_le (t.tests + n) most_tests) refl
  where
    by : (b : Bool) → nat_le (t.tests + n) most_tests ≡ b → (elim b as (λ _. Outcome Trail (Unit {0})) [ true ↦ done tt (record { lines = t.lines; number = t.number; tests = t.tests + n }) | false ↦ stopped limit_met t ]) ≡ stopped limit_met t
    by true f = absurd (grind (arith, nat_tests))
    by false f = refl
