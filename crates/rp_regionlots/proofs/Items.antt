-- The meanings of the items of a list, by their numbers.
use Rattle.std.proofs.Common.{◌≡◌, ℕ, zero, suc, List, [], ◌∷◌, map, length, get_or, refl, ap, ◌∙◌}
use Rattle.rp_parallel.specs.Meanings.{meanings_from, meanings_of}

-- the meanings of the items behind the first
later_meanings : {X Y : Type 0} (f : X → Y) (d x : X) (xs : List X) (k n : ℕ) → meanings_from (λ i. f (get_or (x ∷ xs) i d)) (suc k) n ≡ meanings_from (λ i. f (get_or xs i d)) k n
later_meanings f d x xs k zero = refl
later_meanings f d x xs k (suc n) = ap (λ ys. f (get_or xs k d) ∷ ys) (later_meanings f d x xs (suc k) n)

-- the meanings of all items of a list
pub all_meanings : {X Y : Type 0} (f : X → Y) (d : X) (xs : List X) → meanings_of (λ i. f (get_or xs i d)) (length xs) ≡ map f xs
all_meanings f d [] = refl
all_meanings f d (x ∷ xs) = ap (λ ys. f x ∷ ys) (later_meanings f d x xs zero (length xs) ∙ all_meanings f d xs)
