-- How many items of a list pass a test.
use Rattle.std.proofs.Common.{◌≡◌, ℕ, ap, ◌+◌, ◌≤◌, Bool, true, false, cond, ◌||◌, List, [], ◌∷◌, ◌++◌, length, refl, sym, arith, zero-add}
use Rattle.rp_boxindex.specs.Counts.{count}

pub count-append : {X : Type 0} (p : X → Bool) (xs ys : List X) → count p (xs ++ ys) ≡ count p xs + count p ys
count-append p [] ys = sym (zero-add _)
count-append p (x ∷ xs) ys = let e = count-append p xs ys in omega arith

-- the entries of a node and below it
pub count-round : {X : Type 0} (p : X → Bool) (xs : List X) (x : X) (ys : List X) → count p (xs ++ x ∷ ys) ≡ count p xs + (cond (p x) 1 0 + count p ys)
count-round p xs x ys = count-append p xs (x ∷ ys)

cover_one : (a b c : Bool) → (a ≡ true → (b || c) ≡ true) → cond a 1 0 ≤ cond b 1 0 + cond c 1 0
cover_one false b c h = omega arith
cover_one true true c h = omega arith
cover_one true false true h = omega arith
cover_one true false false h = let e : false ≡ true = h refl in cc

-- what passes the first test passes one of two others
pub count-cover : {X : Type 0} (p q r : X → Bool) → ((x : X) → p x ≡ true → (q x || r x) ≡ true) → (xs : List X) → count p xs ≤ count q xs + count r xs
count-cover p q r h [] = omega arith
count-cover p q r h (x ∷ xs) =
    let one = cover_one (p x) (q x) (r x) (h x) in
    let rest = count-cover p q r h xs in
    omega arith

le_one : (a b : Bool) → (a ≡ true → b ≡ true) → cond a 1 0 ≤ cond b 1 0
le_one false b h = omega arith
le_one true b h = rw (h refl) (omega arith)

-- a test that lets less through
pub count-le : {X : Type 0} (p q : X → Bool) → ((x : X) → p x ≡ true → q x ≡ true) → (xs : List X) → count p xs ≤ count q xs
count-le p q h [] = omega arith
count-le p q h (x ∷ xs) =
    let one = le_one (p x) (q x) (h x) in
    let rest = count-le p q h xs in
    omega arith

-- nothing passes a test, and so nothing one that lets less through
pub count-none : {X : Type 0} (p q : X → Bool) → ((x : X) → p x ≡ true → q x ≡ true) → (xs : List X) → count q xs ≡ 0 → count p xs ≡ 0
count-none p q h xs none = let le = count-le p q h xs in omega arith

pub count-all : {X : Type 0} (xs : List X) → count (λ _. true) xs ≡ length xs
count-all [] = refl
count-all (x ∷ xs) = let e = count-all xs in omega arith

pub false_not_true : false ≡ true → ⊥
false_not_true e = cc

-- an item counts as its test says
pub when : (b c : Bool) → b ≡ c → cond {A = ℕ} b 1 0 ≡ cond {A = ℕ} c 1 0
when b c h = ap (λ (d : Bool). cond {A = ℕ} d 1 0) h

-- where nothing is counted, the first item fails
pub not_counted : (b : Bool) (n : ℕ) → cond {A = ℕ} b 1 0 + n ≡ 0 → b ≡ false
not_counted true n h = absurd (omega arith)
not_counted false n h = refl
