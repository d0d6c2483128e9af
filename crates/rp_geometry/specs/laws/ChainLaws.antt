-- The laws over chains and levels, as statements. Each is proved by the function whose contract names it.
use Rattle.std.specs.Prelude.{◌≡◌, ℕ, ◌<◌, IsTrue, List, Option}
use Rattle.rp_geometry.specs.sets.Chain.{AreLevelsBy, IsChosenBy}
use Rattle.rp_geometry.specs.parts.Groups.{is_linked}
use Rattle.rp_geometry.specs.parts.Levels.{levels_along, chain_along}

-- there is only one list of levels
abbrev pub LevelsAreOneBy : (ℕ → ℕ → Type 0) → Type 0
LevelsAreOneBy R = (n last : ℕ) (levels others : List (Option ℕ)) → AreLevelsBy R n last levels → AreLevelsBy R n last others → levels ≡ others

-- there is at most one chosen chain
abbrev pub ChainIsOneBy : (ℕ → ℕ → Type 0) → Type 0
ChainIsOneBy R = (from last : ℕ) (chosen other : Option (List ℕ)) → IsChosenBy R from last chosen → IsChosenBy R from last other → chosen ≡ other

-- the two numbers are below n and linked
abbrev pub AreLinkedBelow : List (ℕ × ℕ) → ℕ → ℕ → ℕ → Type 0
AreLinkedBelow links n i j = (i < n) × (j < n) × IsTrue (is_linked links i j)

-- there is only one list of levels along links
abbrev pub LevelsAreOneAlong : Type 0
LevelsAreOneAlong = (links : List (ℕ × ℕ)) (n : ℕ) → LevelsAreOneBy (AreLinkedBelow links n)

-- along links there is at most one chosen chain
abbrev pub ChainIsOneAlong : Type 0
ChainIsOneAlong = (links : List (ℕ × ℕ)) (n : ℕ) → ChainIsOneBy (AreLinkedBelow links n)

-- the levels computed from links are the levels
abbrev pub LevelsAreFound : Type 0
LevelsAreFound = (links : List (ℕ × ℕ)) (n last : ℕ) → last < n → AreLevelsBy (AreLinkedBelow links n) n last (levels_along links n last)

-- the chain computed from links is the chosen one
abbrev pub ChainIsFound : Type 0
ChainIsFound = (links : List (ℕ × ℕ)) (n from last : ℕ) → from < n → last < n → IsChosenBy (AreLinkedBelow links n) from last (chain_along links n from last)
