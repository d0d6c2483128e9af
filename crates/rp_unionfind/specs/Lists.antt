-- Lists of numbers, as the code stores them.
use Rattle.std.specs.Prelude.{ℕ, zero, suc, ◌≤◌, List, [], ◌∷◌, ◌++◌, map}
use Rattle.rp_lists.specs.Listed.{Listed}

-- the numbers of each list
abbrev pub lists_of : List (Listed ℕ) → List (List ℕ)
lists_of lists = map (λ list. list.items) lists

-- the numbers of each list of a list
abbrev pub numbers_of : Listed (Listed ℕ) → List (List ℕ)
numbers_of list = lists_of list.items

-- both numbers of a link are from 1 to n
abbrev pub IsWithin : ℕ → ℕ × ℕ → Type 0
IsWithin n l = (1 ≤ l.0) × (l.0 ≤ n) × (1 ≤ l.1) × (l.1 ≤ n)

-- the lists with a number appended to the list at a place, or in a new list at the end
abbrev pub with_number : ℕ → ℕ → List (List ℕ) → List (List ℕ)
with_number place k [] = (k ∷ []) ∷ []
with_number zero k (ks ∷ gs) = (ks ++ k ∷ []) ∷ gs
with_number (suc place) k (ks ∷ gs) = ks ∷ with_number place k gs
