-- The meanings of items in a row.
use Rattle.std.specs.Prelude.{ℕ, zero, suc, List, [], ◌∷◌}

-- the meanings of `count` items in a row, of which the first has the given number
abbrev pub meanings_from : {X : Type 0} → (ℕ → X) → ℕ → ℕ → List X
meanings_from meaning first zero = []
meanings_from meaning first (suc count) = meaning first ∷ meanings_from meaning (suc first) count

-- the meanings of `count` items, from item 0 on
abbrev pub meanings_of : {X : Type 0} → (ℕ → X) → ℕ → List X
meanings_of meaning count = meanings_from meaning 0 count
