-- Whole numbers capped at a size that exceeds every bound of the grammar.
use Rattle.std.specs.Prelude.{ℕ, suc, min, ℤ, pos, negsuc, neg_ℤ, ◌<◌, unsigned_abs}

-- the size at which numbers are capped, 2 ^ 120
abbrev pub most_held : ℕ
most_held = 1329227995784915872903807060280344576

-- the natural number, capped at 2 ^ 120
abbrev pub held_size : ℕ → ℕ
held_size n = min n most_held

-- the number, capped at 2 ^ 120 in size
abbrev pub held : ℤ → ℤ
held (pos n) = pos (held_size n)
held (negsuc n) = neg_ℤ (pos (held_size (suc n)))

-- the size of a bound is below 2 ^ 120
pub record IsHeldBound (v : ℤ) : Type 0 where
  pub small : unsigned_abs v < most_held
