-- Chains, for any relation R between numbers: R holds of each number and the next. The level of a number is the number of steps of a shortest chain from it to the number `last`.
use Rattle.std.specs.Prelude.{◌≡◌, ℕ, ◌<◌, ◌≤◌, List, [], ◌∷◌, length, Option, Some, None, slice_index_or}

-- ---- chains and levels

-- the number i followed by the list is a chain to the number `last`, each number in the relation to the next; the list's length is its number of steps
abbrev pub IsChainBy : (ℕ → ℕ → Type 0) → ℕ → ℕ → List ℕ → Type 0
IsChainBy R last i [] = i ≡ last
IsChainBy R last i (j ∷ js) = R i j × IsChainBy R last j js

-- no chain leads from i to the number `last`
abbrev pub HasNoChainBy : (ℕ → ℕ → Type 0) → ℕ → ℕ → Type 0
HasNoChainBy R last i = (js : List ℕ) → ¬ IsChainBy R last i js

-- some chain from i to the number `last` has k steps, and none has fewer
pub record IsLeastBy (R : ℕ → ℕ → Type 0) (last i k : ℕ) : Type 0 where
  pub some : (js : List ℕ) × IsChainBy R last i js × (length js ≡ k)
  pub least : (js : List ℕ) → IsChainBy R last i js → k ≤ length js

-- the level of a number: the least number of steps of a chain from it to the number `last`; none if there is no chain
abbrev pub IsLevelBy : (ℕ → ℕ → Type 0) → ℕ → ℕ → Option ℕ → Type 0
IsLevelBy R last i None = HasNoChainBy R last i
IsLevelBy R last i (Some k) = IsLeastBy R last i k

-- the entry of a number in a list of levels; none if there is no entry
abbrev pub level_of : List (Option ℕ) → ℕ → Option ℕ
level_of levels i = slice_index_or levels i None

-- the list has the level of each number below n
pub record AreLevelsBy (R : ℕ → ℕ → Type 0) (n last : ℕ) (levels : List (Option ℕ)) : Type 0 where
  pub as_many : length levels ≡ n
  pub each : (i : ℕ) → i < n → IsLevelBy R last i (level_of levels i)

-- ---- the chosen chain

-- j is the first number that is in the relation with i and has level k
pub record IsFirstOfLevelBy (R : ℕ → ℕ → Type 0) (last i k j : ℕ) : Type 0 where
  pub linked : R i j
  pub level : IsLevelBy R last j (Some k)
  pub first : (m : ℕ) → R i m → IsLevelBy R last m (Some k) → j ≤ m

-- from i on, each number of the list is the first in the relation with the one before whose level is one less; the list ends with `last`
abbrev pub GoesDownBy : (ℕ → ℕ → Type 0) → ℕ → ℕ → List ℕ → Type 0
GoesDownBy R last i [] = i ≡ last
GoesDownBy R last i (j ∷ js) = IsFirstOfLevelBy R last i (length js) j × GoesDownBy R last j js

-- the chosen chain from one number to the number `last`: a shortest chain that begins with the first and takes the first possible number at each step
abbrev pub IsRouteBy : (ℕ → ℕ → Type 0) → ℕ → ℕ → List ℕ → Type 0
IsRouteBy R from last [] = ⊥
IsRouteBy R from last (i ∷ js) = (i ≡ from) × IsLeastBy R last from (length js) × GoesDownBy R last from js

-- the chosen chain; none iff there is no chain
abbrev pub IsChosenBy : (ℕ → ℕ → Type 0) → ℕ → ℕ → Option (List ℕ) → Type 0
IsChosenBy R from last None = HasNoChainBy R last from
IsChosenBy R from last (Some route) = IsRouteBy R from last route
