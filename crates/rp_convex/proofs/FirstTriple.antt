-- The first answer of a search over triples is at the first three places that give one.
use Rattle.std.proofs.Common.{◌≡◌, ℕ, zero, suc, ◌<◌, ◌⊎◌, inl, inr, List, [], ◌∷◌, refl, ap, ◌∙◌, arith}
use Rattle.std.specs.Prelude.{Option, Some, None}
use Rattle.std.specs.List.{slice_get}
use Rattle.rp_geometry.specs.searches.Search.{first_of, first_of_pairs, first_of_triples}
use Rattle.rp_algebra.proofs.Options.{none_not_some, same_some, or_else}
use Rattle.rp_convex.specs.Bases.{Places, IsBefore}

-- an answer that is found goes before the rest
found_first : {B : Type 0} (o rest : Option B) (r : B) → o ≡ Some r → or_else o rest ≡ Some r
found_first o rest r e = ap (λ k. or_else k rest) e

-- where there is none the rest is asked
none_first : {B : Type 0} (o rest : Option B) (r : Option B) → o ≡ None → rest ≡ r → or_else o rest ≡ r
none_first o rest r e k = ap (λ l. or_else l rest) e ∙ k

-- where no item gives an answer there is none
pub no_one : {A B : Type 0} (F : A → Option B) (xs : List A) → ((k : ℕ) (z : A) → slice_get xs k ≡ Some z → F z ≡ None) → first_of F xs ≡ None
no_one F [] h = refl
no_one F (u ∷ xs) h = none_first (F u) (first_of F xs) None (h zero u refl) (no_one F xs (λ k z e. h (suc k) z e))

-- the first place that gives an answer
pub first_one : {A B : Type 0} (F : A → Option B) (xs : List A) (k : ℕ) (z : A) (r : B) → slice_get xs k ≡ Some z → F z ≡ Some r
    → ((l : ℕ) (y : A) → slice_get xs l ≡ Some y → l < k → F y ≡ None) → first_of F xs ≡ Some r
first_one F [] k z r e f h = absurd (none_not_some z e)
first_one F (u ∷ xs) zero z r e f h = found_first (F u) (first_of F xs) r (ap F (same_some u z e) ∙ f)
first_one F (u ∷ xs) (suc k) z r e f h =
    none_first (F u) (first_of F xs) (Some r) (h zero u refl (omega arith)) (first_one F xs k z r e f (λ l y d m. h (suc l) y d (omega (arith, m))))

-- where no two items give an answer there is none
pub no_two : {A B : Type 0} (F : A → A → Option B) (xs : List A) → ((j k : ℕ) (y z : A) → slice_get xs j ≡ Some y → slice_get xs k ≡ Some z → j < k → F y z ≡ None) → first_of_pairs F xs ≡ None
no_two F [] h = refl
no_two F (u ∷ xs) h =
    none_first (first_of (F u) xs) (first_of_pairs F xs) None (no_one (F u) xs (λ k z e. h zero (suc k) u z refl e (omega arith)))
    (no_two F xs (λ j k y z d e m. h (suc j) (suc k) y z d e (omega (arith, m))))

-- two places are before two others
abbrev pub IsBeforeTwo : ℕ → ℕ → ℕ → ℕ → Type 0
IsBeforeTwo m n j k = (m < j) ⊎ ((m ≡ j) × (n < k))

-- one place further on
before_two_suc : (m n j k : ℕ) → IsBeforeTwo m n j k → IsBeforeTwo (suc m) (suc n) (suc j) (suc k)
before_two_suc m n j k (inl h) = inl (omega (arith, h))
before_two_suc m n j k (inr (e, h)) = inr (ap suc e, omega (arith, h))

-- the first two places that give an answer
pub first_two : {A B : Type 0} (F : A → A → Option B) (xs : List A) (j k : ℕ) (y z : A) (r : B) → slice_get xs j ≡ Some y → slice_get xs k ≡ Some z → j < k → F y z ≡ Some r
    → ((m n : ℕ) (v w : A) → slice_get xs m ≡ Some v → slice_get xs n ≡ Some w → m < n → IsBeforeTwo m n j k → F v w ≡ None) → first_of_pairs F xs ≡ Some r
first_two F [] j k y z r d e l f h = absurd (none_not_some y d)
first_two F (u ∷ xs) j zero y z r d e l f h = absurd (omega (arith, l))
first_two F (u ∷ xs) zero (suc k) y z r d e l f h =
    found_first (first_of (F u) xs) (first_of_pairs F xs) r
    (first_one (F u) xs k z r e (ap (λ t. F t z) (same_some u y d) ∙ f) (λ n w g m. h zero (suc n) u w refl g (omega arith) (inr (refl, omega (arith, m)))))
first_two F (u ∷ xs) (suc j) (suc k) y z r d e l f h =
    none_first (first_of (F u) xs) (first_of_pairs F xs) (Some r)
    (no_one (F u) xs (λ n w g. h zero (suc n) u w refl g (omega arith) (inl (omega arith))))
    (first_two F xs j k y z r d e (omega (arith, l)) f (λ m n v w a b c t. h (suc m) (suc n) v w a b (omega (arith, c)) (before_two_suc m n j k t)))

-- where no three items give an answer there is none
pub no_three : {A B : Type 0} (F : A → A → A → Option B) (xs : List A)
    → ((i j k : ℕ) (x y z : A) → slice_get xs i ≡ Some x → slice_get xs j ≡ Some y → slice_get xs k ≡ Some z → i < j → j < k → F x y z ≡ None) → first_of_triples F xs ≡ None
no_three F [] h = refl
no_three F (u ∷ xs) h =
    none_first (first_of_pairs (F u) xs) (first_of_triples F xs) None (no_two (F u) xs (λ j k y z d e m. h zero (suc j) (suc k) u y z refl d e (omega arith) (omega (arith, m))))
    (no_three F xs (λ i j k x y z c d e m n. h (suc i) (suc j) (suc k) x y z c d e (omega (arith, m)) (omega (arith, n))))

-- three places
abbrev pub places : ℕ → ℕ → ℕ → Places
places i j k = record { first = i; second = j; third = k }

-- one place further on
before_suc : (l m n i j k : ℕ) → IsBefore (places l m n) (places i j k) → IsBefore (places (suc l) (suc m) (suc n)) (places (suc i) (suc j) (suc k))
before_suc l m n i j k (inl h) = inl (omega (arith, h))
before_suc l m n i j k (inr (e, t)) = inr (ap suc e, before_two_suc m n j k t)

-- the first three places that give an answer
pub first_three : {A B : Type 0} (F : A → A → A → Option B) (xs : List A) (i j k : ℕ) (x y z : A) (r : B)
    → slice_get xs i ≡ Some x → slice_get xs j ≡ Some y → slice_get xs k ≡ Some z → i < j → j < k → F x y z ≡ Some r
    → ((l m n : ℕ) (u v w : A) → slice_get xs l ≡ Some u → slice_get xs m ≡ Some v → slice_get xs n ≡ Some w → l < m → m < n → IsBefore (places l m n) (places i j k) → F u v w ≡ None)
    → first_of_triples F xs ≡ Some r
first_three F [] i j k x y z r c d e a b f h = absurd (none_not_some x c)
first_three F (o ∷ xs) i zero k x y z r c d e a b f h = absurd (omega (arith, a))
first_three F (o ∷ xs) i (suc j) zero x y z r c d e a b f h = absurd (omega (arith, b))
first_three F (o ∷ xs) zero (suc j) (suc k) x y z r c d e a b f h =
    found_first (first_of_pairs (F o) xs) (first_of_triples F xs) r
    (first_two (F o) xs j k y z r d e (omega (arith, b)) (ap (λ t. F t y z) (same_some o x c) ∙ f)
    (λ m n v w p q l t. h zero (suc m) (suc n) o v w refl p q (omega arith) (omega (arith, l)) (inr (refl, before_two_suc m n j k t))))
first_three F (o ∷ xs) (suc i) (suc j) (suc k) x y z r c d e a b f h =
    none_first (first_of_pairs (F o) xs) (first_of_triples F xs) (Some r)
    (no_two (F o) xs (λ m n v w p q l. h zero (suc m) (suc n) o v w refl p q (omega arith) (omega (arith, l)) (inl (omega arith))))
    (first_three F xs i j k x y z r c d e (omega (arith, a)) (omega (arith, b)) f
    (λ l m n u v w p q s t o b. h (suc l) (suc m) (suc n) u v w p q s (omega (arith, t)) (omega (arith, o)) (before_suc l m n i j k b)))
