-- The search for the first number of a level among some numbers, and the tests of one entry, as the code makes them.
use Rattle.std.specs.Prelude.{◌≡◌, ℕ, suc, ◌+◌, ◌≤◌, ◌↔◌, IsTrue, Bool, true, false, nat_eq, nat_le, List, Option, Some, None}
use Rattle.std.specs.List.{Contains}
use Rattle.rp_geometry.specs.sets.Chain.{level_of}

-- the number is in the list and has the level
pub record IsOfLevel (levels : List (Option ℕ)) (level : ℕ) (js : List ℕ) (j : ℕ) : Type 0 where
  pub listed : Contains js j
  pub level_is : level_of levels j ≡ Some level

-- the first number of the list that has the level; none if no number has it
abbrev pub IsFirstAmong : List (Option ℕ) → ℕ → List ℕ → Option ℕ → Type 0
IsFirstAmong levels level js None = (m : ℕ) → ¬ IsOfLevel levels level js m
IsFirstAmong levels level js (Some j) = IsOfLevel levels level js j × ((m : ℕ) → IsOfLevel levels level js m → j ≤ m)

-- the lesser of a number and another, if there is another
abbrev pub earlier : Option ℕ → ℕ → ℕ
earlier None j = j
earlier (Some i) j = elim (nat_le i j) [ true ↦ i | false ↦ j ]

-- the first number with the level, after one more number j with its level
abbrev pub first_with : Option ℕ → ℕ → Option ℕ → ℕ → Option ℕ
first_with None level first j = first
first_with (Some k) level first j = elim (nat_eq k level) [ true ↦ Some (earlier first j) | false ↦ first ]

-- both levels are there and differ by at most 1, or neither is there
abbrev pub AreClose : Option ℕ → Option ℕ → Type 0
AreClose None None = Unit {0}
AreClose None (Some l) = ⊥
AreClose (Some k) None = ⊥
AreClose (Some k) (Some l) = (k ≤ l + 1) × (l ≤ k + 1)

-- the entry is close to that of each number of the list
abbrev pub IsCloseToAll : List (Option ℕ) → Option ℕ → List ℕ → Type 0
IsCloseToAll levels own js = (j : ℕ) → Contains js j → AreClose own (level_of levels j)

-- the tests of an entry: it is the level 0 iff the number is `last`; if it is above 0, some number of the list has a level one less
pub record IsRight (levels : List (Option ℕ)) (is_last : Bool) (own : Option ℕ) (js : List ℕ) : Type 0 where
  pub zero_at_last : (own ≡ Some 0) ↔ IsTrue is_last
  pub nearer : (k : ℕ) → own ≡ Some (suc k) → (j : ℕ) × IsOfLevel levels k js j
