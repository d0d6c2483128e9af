-- The state of a taker of the ids that a search finds.
use Rattle.std.specs.Prelude.{ℕ, Bool, true, cond, ◌&&◌, nat_lt, List, [], ◌∷◌, Option, Some, None}

-- the state of the taker after the ids of a list, one after another
abbrev pub taken : {S : Type 0} → (S → ℕ → S) → S → List ℕ → S
taken after taker [] = taker
taken after taker (id ∷ ids) = taken after (after taker id) ids

-- the number is less than another, if there is another
abbrev pub is_less : Option ℕ → ℕ → Bool
is_less None id = true
is_less (Some least) id = nat_lt id least

-- the least number so far that passes a test, after one more
abbrev pub lesser : (ℕ → Bool) → Option ℕ → ℕ → Option ℕ
lesser passes least id = cond (is_less least id && passes id) (Some id) least
