-- The number of items of a list that pass a test.
use Rattle.std.specs.Prelude.{◌≡◌, ℕ, ◌+◌, Bool, cond, List, [], ◌∷◌}

-- the number of items that pass
abbrev pub count : {X : Type 0} → (X → Bool) → List X → ℕ
count test [] = 0
count test (x ∷ xs) = cond (test x) 1 0 + count test xs

-- two lists have the same items, in any order: for every test equally many of each pass
abbrev pub SameCounts : {X : Type 0} → List X → List X → Type 0
SameCounts {X} xs ys = (test : X → Bool) → count test xs ≡ count test ys
