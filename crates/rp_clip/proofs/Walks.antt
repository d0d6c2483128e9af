-- Walks over the places of a set, from one to the next.
use Rattle.std.proofs.Common.{◌≡◌, ℕ, ◌+◌, ◌-◌, ◌<◌, ◌≤◌, arith, Fits, w32}
use Rattle.std.specs.Prelude.{Option, Some, None, IfSome, IfNone}
use Rattle.std.specs.Int.{bit_at}
use Rattle.rp_algebra.proofs.Options.{of_some}
use Rattle.rp_space.specs.Places.{IsIn, IsLowestFrom, HasNoneFrom}

-- the walk is past a place
abbrev pub IsPast : Option ℕ → ℕ → Type 0
IsPast None i = Unit {0}
IsPast (Some n) i = i < n

-- how many places may be left
abbrev pub places_left : Option ℕ → ℕ
places_left None = 0
places_left (Some n) = 128 - n

-- what the search for the lowest place from one on says of its answer
pub record IsNextFrom (set from : ℕ) (o : Option ℕ) : Type 0 where
  pub some : IfSome o (λ place. IsLowestFrom set from place)
  pub none : IfNone o (HasNoneFrom set from)

-- a bit is not 1 and 0
pub one_not_zero : (b : ℕ) → b ≡ 1 → b ≡ 0 → ⊥
one_not_zero b e f = omega (arith, e, f)

-- no place of the set is passed over
pub no_skip : (set from : ℕ) (o : Option ℕ) → IsNextFrom set from o → (j : ℕ) → from ≤ j → IsIn set j → IsPast o j → ⊥
no_skip set from None k j l e p = one_not_zero (bit_at set j) e (k.none j l)
no_skip set from (Some n) k j l e p = one_not_zero (bit_at set j) e (k.some.none j l p)

-- the next place is one of the set, and not before
pub next_here : (set from : ℕ) (o : Option ℕ) → IsNextFrom set from o → IfSome o (λ n. (from ≤ n) × IsIn set n)
next_here set from None k = tt
next_here set from (Some n) k = (k.some.from_on, k.some.is_in)

-- fewer places are left
pub fewer_left : (set n : ℕ) (o : Option ℕ) → n < 128 → IsNextFrom set (n + 1) o → places_left o < 128 - n
fewer_left set n None l k = omega (arith, l)
fewer_left set n (Some m) l k = let a = k.some.from_on in let b = k.some.below in omega (arith, a, b, l)

-- the place after one below 70 fits
pub after_fits : (n : ℕ) → n < 70 → Fits w32 (n + 1)
after_fits n h = record { fits = omega (arith, h) }

-- the place that is tried is behind the first, and in the set
pub tried : (set first n : ℕ) (o : Option ℕ) → o ≡ Some n → IfSome o (λ m. (first < m) × IsIn set m) → (first < n) × IsIn set n
tried set first n o e h = of_some (λ (m : ℕ). (first < m) × IsIn set m) o n e h

-- the same of a walk from a place on
pub tried_from : (set from n : ℕ) (o : Option ℕ) → o ≡ Some n → IfSome o (λ m. (from ≤ m) × IsIn set m) → (from ≤ n) × IsIn set n
tried_from set from n o e h = of_some (λ (m : ℕ). (from ≤ m) × IsIn set m) o n e h
