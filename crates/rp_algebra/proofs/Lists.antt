-- Items of lists by their places, fronts and rests, ranges of numbers, and facts that are true of all items.
use Rattle.std.proofs.Common.{◌≡◌, ℕ, zero, suc, List, [], ◌∷◌, map, refl, ◌<◌, ◌++◌, length, arith, ◌+◌, get_or, drop, sym, ap, ◌∙◌, ◌≤◌, take, true, eqb, false, ⊎_elim, subst, Bool}
use Rattle.std.specs.Prelude.{option_map, Some, filter, cond}
use Rattle.std.specs.List.{slice_get, range_with_len, AllByRecursion}
use Rattle.std.proofs.lemmas.List.{drop_more, nil_from_length}
use Rattle.std.proofs.lemmas.Bool.Decides.{nat_tests}
use Rattle.std.proofs.lemmas.Bool.{cases_order}
use Rattle.rp_algebra.proofs.Listed.{Listed, first, later}

-- what stands at a place of a map
pub map_get : {A B : Type 0} (f : A → B) (xs : List A) (i : ℕ) → slice_get (map f xs) i ≡ option_map f (slice_get xs i)
map_get f [] i = refl
map_get f (x ∷ xs) zero = refl
map_get f (x ∷ xs) (suc i) = map_get f xs i

-- images of images
pub images_twice : {A B C : Type 0} (f : A → B) (g : B → C) (xs : List A) → map g (map f xs) ≡ map (λ x. g (f x)) xs
images_twice f g [] = refl
images_twice f g (x ∷ xs) = ap (λ (zs : List _). g (f x) ∷ zs) (images_twice f g xs)

-- what stands in the first of two lists
pub get_left : {A : Type 0} (xs ys : List A) (i : ℕ) → i < length xs → slice_get (xs ++ ys) i ≡ slice_get xs i
get_left [] ys i h = absurd (omega (arith, h))
get_left (x ∷ xs) ys zero h = refl
get_left (x ∷ xs) ys (suc i) h = get_left xs ys i (omega (arith, h))

-- an item at a place below the length
pub get_some : {A : Type 0} (xs : List A) (i : ℕ) → i < length xs → (x : A) × (slice_get xs i ≡ Some x)
get_some [] i h = absurd (omega (arith, h))
get_some (x ∷ xs) zero h = (x, refl)
get_some (x ∷ xs) (suc i) h = get_some xs i (omega (arith, h))

-- what is left of a list begins with the entry that is read at the place
pub entry_left : {A : Type 0} (xs : List A) (k : ℕ) (d x : A) → k < length xs → get_or xs k d ≡ x → drop k xs ≡ x ∷ drop (k + 1) xs
entry_left xs k d x h e = drop_more xs k d h ∙ ap (λ y. y ∷ drop (k + 1) xs) e

-- what is left of a list at an item
pub drop_item : {X : Type 0} (xs : List X) (i : ℕ) (x : X) → i < length xs → x ≡ get_or xs i x → drop i xs ≡ x ∷ drop (i + 1) xs
drop_item xs i x h e = entry_left xs i x x h (sym e)

-- the front of a list that is as long as the list
pub take_all : {A : Type 0} (xs : List A) (i : ℕ) → length xs ≤ i → take i xs ≡ xs
take_all [] zero h = refl
take_all [] (suc i) h = refl
take_all (x ∷ xs) zero h = absurd (omega arith)
take_all (x ∷ xs) (suc i) h = ap (λ v. x ∷ v) (take_all xs i (omega arith))

-- a list whose length tests as 0 is empty
pub nil_from_test : (xs : List ℕ) → eqb (length xs) 0 ≡ true → xs ≡ []
nil_from_test xs e = nil_from_length xs (grind (arith, nat_tests))

-- and one whose length does not is not
pub nonempty_from_test : (xs : List ℕ) → eqb (length xs) 0 ≡ false → 0 < length xs
nonempty_from_test xs e = grind (arith, nat_tests)

-- the numbers of a range stand in its list
pub range_listed : (n a k : ℕ) → a ≤ k → k < a + n → Listed k (range_with_len a n)
range_listed zero a k h l = absurd (omega (arith, h, l))
range_listed (suc n) a k h l = ⊎_elim
    (λ (e : a ≡ k). subst (λ j. Listed j (range_with_len a (suc n))) e first)
    (⊎_elim
    (λ (e : a < k). later (range_listed n (a + 1) k (omega (arith, e)) (omega (arith, l))))
    (λ (e : k < a). absurd (omega (arith, e, h))))
    (cases_order a k)

-- and no others
pub listed_range : (n a k : ℕ) → Listed k (range_with_len a n) → (a ≤ k) × (k < a + n)
listed_range zero a k l = elim l [ ]
listed_range (suc n) a k first = (omega arith, omega arith)
listed_range (suc n) a k (later l) = let r = listed_range n (a + 1) k l in (omega (arith, r.0), omega (arith, r.1))

-- what is true of all items is true of those that a filter keeps
pub all_filter : {A : Type 0} (Q : A → Type 0) (test : A → Bool) (xs : List A) → AllByRecursion Q xs → AllByRecursion Q (filter test xs)
all_filter Q test [] h = tt
all_filter Q test (x ∷ xs) h = by_test (test x) (all_filter Q test xs h.1)
  where
    by_test : (b : Bool) → AllByRecursion Q (filter test xs) → AllByRecursion Q (cond b (x ∷ filter test xs) (filter test xs))
    by_test true k = (h.0, k)
    by_test false k = k

-- two facts that are true of all items, and what follows from both
pub all_both : {A : Type 0} (P Q R : A → Type 0) → ((x : A) → P x → Q x → R x) → (xs : List A) → AllByRecursion P xs → AllByRecursion Q xs → AllByRecursion R xs
all_both P Q R each [] h k = tt
all_both P Q R each (x ∷ xs) h k = (each x h.0 k.0, all_both P Q R each xs h.1 k.1)
