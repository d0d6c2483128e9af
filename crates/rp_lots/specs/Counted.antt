-- Counts of tests, which stop at the limit.
use Rattle.std.specs.Prelude.{◌≡◌, ℕ, ◌<◌, ◌≤◌, Result, Ok, Err}
use Rattle.rp_semantics.specs.Walk.{most_tests}
use Rattle.rp_oracle.specs.declared.stopped.Stopped.{Stopped}
use Rattle.rp_oracle.specs.declared.stopped.Stopped.TheVariants.{Limit, Memory}

-- n pairs were counted, at most as many as a command may test; or a limit is met, because there are more; nothing is stated if memory ran out
abbrev pub CountsUpTo : {A : Type 0} → (A → ℕ) → Result A Stopped → ℕ → Type 0
CountsUpTo count (Ok x) n = (count x ≡ n) × (n ≤ most_tests)
CountsUpTo count (Err Limit) n = most_tests < n
CountsUpTo count (Err (Memory e)) n = Unit {0}
CountsUpTo count (Err _) n = ⊥
