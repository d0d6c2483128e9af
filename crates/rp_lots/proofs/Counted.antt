-- Where pairs were not counted up to their end.
use Rattle.std.proofs.Common.{◌≡◌, ℕ, ◌<◌, ◌≤◌, Err, arith}
use Rattle.rp_semantics.specs.Walk.{stopped, limit_met, Walk, most_tests}
use Rattle.rp_oracle.specs.declared.stopped.Stopped.{Stopped}
use Rattle.rp_oracle.specs.declared.stopped.Stopped.TheVariants.{Wrong, TakenWrong, LimitReported, Limit, Memory}
use Rattle.rp_oracle.specs.Refines.{StopsBy}
use Rattle.rp_lots.specs.Counted.{CountsUpTo}

-- where pairs were not counted, so many tests are not
pub count_lost : {A W : Type 0} (count : A → ℕ) (tests : ℕ → Walk W (Unit {0})) → ((n : ℕ) (w : W) → most_tests < n → tests n w ≡ stopped limit_met w) → (e : Stopped) (n : ℕ) (w : W) → CountsUpTo count (Err e) n → StopsBy e w (tests n w)
count_lost count tests law Wrong n w h = absurd h
count_lost count tests law TakenWrong n w h = absurd h
count_lost count tests law LimitReported n w h = absurd h
count_lost count tests law Limit n w h = law n w h
count_lost count tests law (Memory k) n w h = tt

-- and neither are more
pub count_more : {A B : Type 0} (count : A → ℕ) (others : B → ℕ) (e : Stopped) (m n : ℕ) → m ≤ n → CountsUpTo count (Err e) m → CountsUpTo others (Err e) n
count_more count others Wrong m n f h = absurd h
count_more count others TakenWrong m n f h = absurd h
count_more count others LimitReported m n f h = absurd h
count_more count others Limit m n f h = omega (arith, f, h)
count_more count others (Memory k) m n f h = tt
