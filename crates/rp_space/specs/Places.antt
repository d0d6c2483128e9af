-- Sets of places as bits of a number.
use Rattle.std.specs.Prelude.{◌≡◌, ℕ, ◌+◌, ◌*◌, ◌<◌, ◌≤◌, Bool, cond, List, [], ◌∷◌}
use Rattle.std.specs.Int.{bit_at}

-- the places of a list whose members pass a test, as the bits of a number
abbrev pub bits_of : {A : Type 0} → (A → Bool) → List A → ℕ
bits_of test [] = 0
bits_of test (x ∷ xs) = 2 * bits_of test xs + cond (test x) 1 0

-- the place is in the set
abbrev pub IsIn : ℕ → ℕ → Type 0
IsIn set place = bit_at set place ≡ 1

-- the place is the lowest of the set, from a place on
pub record IsLowestFrom (set from place : ℕ) : Type 0 where
  pub from_on : from ≤ place
  pub below : place < 128
  pub is_in : IsIn set place
  pub none : (i : ℕ) → from ≤ i → i < place → bit_at set i ≡ 0

-- the set has no place from a place on
abbrev pub HasNoneFrom : ℕ → ℕ → Type 0
HasNoneFrom set from = (i : ℕ) → from ≤ i → bit_at set i ≡ 0

-- the set has at most one place
abbrev pub HasNoTwo : ℕ → Type 0
HasNoTwo set = (i j : ℕ) → i < j → IsIn set i → IsIn set j → ⊥
