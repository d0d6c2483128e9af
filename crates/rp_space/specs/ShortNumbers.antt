-- Numbers within the bounds of minors of half-spaces.
use Rattle.std.specs.Prelude.{ℤ, ◌^◌}
use Rattle.rp_algebra.specs.Within.{IsWithin}

-- the four numbers of a minor are at most 2 ^ 50 in size
pub record AreShort (p q r s : ℤ) : Type 0 where
  pub a : IsWithin (2 ^ 50) p
  pub b : IsWithin (2 ^ 50) q
  pub c : IsWithin (2 ^ 50) r
  pub d : IsWithin (2 ^ 50) s
