-- The laws of levels, as statements. Each is proved by the function whose contract names it.
use Rattle.std.specs.Prelude.{◌≡◌, ℕ, ◌<◌, ◌↔◌, List, length, Option}
use Rattle.rp_geometry.specs.sets.Chain.{IsChosenBy}
use Rattle.rp_geometry.specs.parts.Levels.{levels_along, chain_along}
use Rattle.rp_geometry.specs.laws.ChainLaws.{AreLinkedBelow}
use Rattle.rp_access.specs.Chain.{IsLinked, AreLinks, AreLevels, IsRoute, PassesTests}

-- a list that passes the four tests is the list of levels, so no chain is shorter than its level
abbrev pub PassingLevelsAreLevels : Type 0
PassingLevelsAreLevels = (g : List (List ℕ)) (last : ℕ) (levels : List (Option ℕ)) → last < length g → length levels ≡ length g → PassesTests g last levels → AreLevels g last levels

-- if links go both ways, the list of levels passes the four tests
abbrev pub LevelsPassTests : Type 0
LevelsPassTests = (g : List (List ℕ)) (last : ℕ) (levels : List (Option ℕ)) → last < length g → AreLinks g → AreLevels g last levels → PassesTests g last levels

-- there is only one list of levels
abbrev pub LevelsAreOne : Type 0
LevelsAreOne = (g : List (List ℕ)) (last : ℕ) (levels others : List (Option ℕ)) → AreLevels g last levels → AreLevels g last others → levels ≡ others

-- there is only one chosen chain
abbrev pub RouteIsOne : Type 0
RouteIsOne = (g : List (List ℕ)) (from last : ℕ) (route other : List ℕ) → IsRoute g from last route → IsRoute g from last other → route ≡ other

-- the lists link exactly the numbers that the pairs link
abbrev pub AreLinksOf : List (List ℕ) → List (ℕ × ℕ) → Type 0
AreLinksOf g links = (i j : ℕ) → IsLinked g i j ↔ AreLinkedBelow links (length g) i j

-- if pairs link the same numbers as lists do, the list of levels is the one computed from the pairs
abbrev pub LevelsAreComputed : Type 0
LevelsAreComputed = (g : List (List ℕ)) (links : List (ℕ × ℕ)) (last : ℕ) (levels : List (Option ℕ)) → AreLinksOf g links → last < length g → AreLevels g last levels → levels ≡ levels_along links (length g) last

-- if pairs link the same numbers as lists do, the chosen chain is the one computed from the pairs
abbrev pub ChainIsComputed : Type 0
ChainIsComputed = (g : List (List ℕ)) (links : List (ℕ × ℕ)) (from last : ℕ) (chosen : Option (List ℕ)) → AreLinksOf g links → from < length g → last < length g →
    IsChosenBy (IsLinked g) from last chosen → chosen ≡ chain_along links (length g) from last
