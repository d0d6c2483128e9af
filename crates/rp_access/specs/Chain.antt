-- Links between numbers, chains along them, and levels: the number of steps of a shortest chain to one number. rp_geometry defines chains and levels for any relation between numbers.
use Rattle.std.specs.Prelude.{◌≡◌, ℕ, suc, ◌+◌, ◌<◌, ◌≤◌, ◌^◌, ◌⊎◌, ◌↔◌, List, [], length, Option, Some, is_some, slice_index_or}
use Rattle.std.specs.List.{Contains}
use Rattle.rp_geometry.specs.sets.Chain.{IsChainBy, HasNoChainBy, IsLeastBy, IsLevelBy, level_of, AreLevelsBy, IsFirstOfLevelBy, GoesDownBy, IsRouteBy}

-- ---- links

-- the numbers that a number is linked to; none where the number has no list
abbrev pub linked_to : List (List ℕ) → ℕ → List ℕ
linked_to g i = slice_index_or g i []

-- the first number is linked to the second: its list has it
abbrev pub IsLinked : List (List ℕ) → ℕ → ℕ → Type 0
IsLinked g i j = Contains (linked_to g i) j

-- links go both ways, and only between numbers that have a list
pub record AreLinks (g : List (List ℕ)) : Type 0 where
  pub below : (i j : ℕ) → IsLinked g i j → j < length g
  pub both_ways : (i j : ℕ) → IsLinked g i j → IsLinked g j i
  pub few : length g < 2 ^ 32

-- both numbers of a pair are below a count
abbrev pub IsBelow : ℕ → ℕ × ℕ → Type 0
IsBelow n p = (p.0 < n) × (p.1 < n)

-- the two numbers are linked to each other, and all other links are as before
pub record AreJoined (old new : List (List ℕ)) (a b : ℕ) : Type 0 where
  pub as_many : length new ≡ length old
  pub links : (i j : ℕ) → IsLinked new i j ↔ (IsLinked old i j ⊎ ((i ≡ a) × (j ≡ b)) ⊎ ((i ≡ b) × (j ≡ a)))

-- ---- chains and levels along links

-- each number of the chain is linked to the next
abbrev pub IsChain : List (List ℕ) → ℕ → ℕ → List ℕ → Type 0
IsChain g = IsChainBy (IsLinked g)

-- no chain along links leads from i to the number `last`
abbrev pub HasNoChain : List (List ℕ) → ℕ → ℕ → Type 0
HasNoChain g = HasNoChainBy (IsLinked g)

-- some chain along links has k steps, and none has fewer
abbrev pub IsLeast : List (List ℕ) → ℕ → ℕ → ℕ → Type 0
IsLeast g = IsLeastBy (IsLinked g)

-- the level of a number along links
abbrev pub IsLevel : List (List ℕ) → ℕ → ℕ → Option ℕ → Type 0
IsLevel g = IsLevelBy (IsLinked g)

-- the list has the level of each number that has a list
abbrev pub AreLevels : List (List ℕ) → ℕ → List (Option ℕ) → Type 0
AreLevels g = AreLevelsBy (IsLinked g) (length g)

-- the first number that i is linked to and that has the level k
abbrev pub IsFirstOfLevel : List (List ℕ) → ℕ → ℕ → ℕ → ℕ → Type 0
IsFirstOfLevel g = IsFirstOfLevelBy (IsLinked g)

-- each number of the list is the first linked one whose level is one less, along links
abbrev pub GoesDown : List (List ℕ) → ℕ → ℕ → List ℕ → Type 0
GoesDown g = GoesDownBy (IsLinked g)

-- the chosen chain along links
abbrev pub IsRoute : List (List ℕ) → ℕ → ℕ → List ℕ → Type 0
IsRoute g = IsRouteBy (IsLinked g)

-- ---- the four tests of a list of levels

-- the four tests, each of a number and of those to which it is linked
pub record PassesTests (g : List (List ℕ)) (last : ℕ) (levels : List (Option ℕ)) : Type 0 where
  -- the number `last` has the level 0, and no other number has it
  pub zero_at_last : (i : ℕ) → i < length g → (level_of levels i ≡ Some 0) ↔ (i ≡ last)
  -- two linked numbers both have a level, or neither has
  pub together : (i j : ℕ) → IsLinked g i j → is_some (level_of levels i) ≡ is_some (level_of levels j)
  -- levels of linked numbers differ by at most 1
  pub close : (i j k l : ℕ) → IsLinked g i j → level_of levels i ≡ Some k → level_of levels j ≡ Some l → (k ≤ l + 1) × (l ≤ k + 1)
  -- a number of a level above 0 is linked to one whose level is one less
  pub nearer : (i k : ℕ) → level_of levels i ≡ Some (suc k) → (j : ℕ) × IsLinked g i j × (level_of levels j ≡ Some k)
