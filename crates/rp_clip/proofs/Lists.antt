-- Lists of different items, and what a filter and a map make of one item more.
use Rattle.std.proofs.Common.{◌≡◌, ℕ, zero, suc, ◌+◌, ◌⊎◌, inl, inr, ⊎_elim, Bool, true, false, cond, List, [], ◌∷◌, ◌++◌, length, take, map, refl, ap, ◌∙◌, subst, arith}
use Rattle.std.specs.Prelude.{Some}
use Rattle.std.specs.List.{Contains, slice_get, filter}
use Rattle.rp_algebra.proofs.Listed.{Listed, first, later, listed_left, listed_right, listed_cases}
use Rattle.rp_algebra.proofs.Options.{none_not_some, same_some}
use Rattle.rp_algebra.proofs.Filter.{kept, keeps}
use Rattle.rp_convex.proofs.Standing.{listed_contains, contains_listed}
use Rattle.rp_clip.specs.Tables.{AreDistinct}

-- the one item of a list
only_item : {A : Type 0} (x y : A) → Listed x (y ∷ []) → x ≡ y
only_item x y first = refl
only_item x y (later l) = elim l [ ]

-- an item of a list with one more at its end stands in the list or is that one
pub push_cases : {A : Type 0} (xs : List A) (y x : A) → Contains (xs ++ y ∷ []) x → Contains xs x ⊎ (x ≡ y)
push_cases xs y x c = ⊎_elim (λ l. inl (listed_contains x xs l)) (λ l. inr (only_item x y l)) (listed_cases x xs (y ∷ []) (contains_listed x (xs ++ y ∷ []) c))

-- the items of a list stand in it with one more
pub push_keeps : {A : Type 0} (xs : List A) (y x : A) → Contains xs x → Contains (xs ++ y ∷ []) x
push_keeps xs y x c = listed_contains x (xs ++ y ∷ []) (listed_left x xs (y ∷ []) (contains_listed x xs c))

-- the one more stands in it
pub push_has : {A : Type 0} (xs : List A) (y : A) → Contains (xs ++ y ∷ []) y
push_has xs y = listed_contains y (xs ++ y ∷ []) (listed_right y xs (y ∷ []) first)

-- an item behind the first stands in the list
behind : {A : Type 0} (x y : A) (xs : List A) → Contains xs y → Contains (x ∷ xs) y
behind x y xs c = listed_contains y (x ∷ xs) (later (contains_listed y xs c))

-- different items stay different with one more that is not among them
pub push_distinct : {A : Type 0} (xs : List A) (y : A) → AreDistinct xs → (Contains xs y → ⊥) → AreDistinct (xs ++ y ∷ [])
push_distinct [] y d n = (none, tt)
  where
    none : Contains [] y → ⊥
    none c = elim (contains_listed y [] c) [ ]
push_distinct (x ∷ xs) y d n = (
  λ c. ⊎_elim (λ k. d.0 k) (λ e. n (subst (λ z. Contains (x ∷ xs) z) e (listed_contains x (x ∷ xs) first))) (push_cases xs y x c),
  push_distinct xs y d.1 (λ c. n (behind x y xs c)),
)

-- what a filter keeps of different items is different
pub filter_distinct : {A : Type 0} (test : A → Bool) (xs : List A) → AreDistinct xs → AreDistinct (filter test xs)
filter_distinct test [] d = tt
filter_distinct {A} test (x ∷ xs) d = by_test (test x) (filter_distinct test xs d.1)
  where
    not_kept : Contains (filter test xs) x → ⊥
    not_kept c = d.0 (listed_contains x xs (kept test xs x (contains_listed x (filter test xs) c)).listed)

    by_test : (b : Bool) → AreDistinct (filter test xs) → AreDistinct (cond b (x ∷ filter test xs) (filter test xs))
    by_test true r = (not_kept, r)
    by_test false r = r

-- what it keeps stands in the list and passes
pub filter_from : {A : Type 0} (test : A → Bool) (xs : List A) (x : A) → Contains (filter test xs) x → Contains xs x × (test x ≡ true)
filter_from test xs x c = let k = kept test xs x (contains_listed x (filter test xs) c) in (listed_contains x xs k.listed, k.passes)

-- it keeps what passes
pub filter_keeps : {A : Type 0} (test : A → Bool) (xs : List A) (x : A) → Contains xs x → test x ≡ true → Contains (filter test xs) x
filter_keeps test xs x c e = listed_contains x (filter test xs) (keeps test xs x (contains_listed x xs c) e)

-- a filter of one item more, which passes
pub filter_push_true : {A : Type 0} (test : A → Bool) (xs : List A) (y : A) → test y ≡ true → filter test (xs ++ y ∷ []) ≡ filter test xs ++ y ∷ []
filter_push_true test [] y e = ap (λ b. cond b (y ∷ []) []) e
filter_push_true test (x ∷ xs) y e = by_test (test x) (filter_push_true test xs y e)
  where
    by_test : (b : Bool) → filter test (xs ++ y ∷ []) ≡ filter test xs ++ y ∷ [] → cond b (x ∷ filter test (xs ++ y ∷ [])) (filter test (xs ++ y ∷ [])) ≡ cond b (x ∷ filter test xs) (filter test xs) ++ y ∷ []
    by_test true r = ap (λ zs. x ∷ zs) r
    by_test false r = r

-- and which does not
pub filter_push_false : {A : Type 0} (test : A → Bool) (xs : List A) (y : A) → test y ≡ false → filter test (xs ++ y ∷ []) ≡ filter test xs
filter_push_false test [] y e = ap (λ b. cond b (y ∷ []) []) e
filter_push_false test (x ∷ xs) y e = ap (λ zs. cond (test x) (x ∷ zs) zs) (filter_push_false test xs y e)

-- a map of one item more
pub map_push : {A B : Type 0} (f : A → B) (xs : List A) (y : A) → map f (xs ++ y ∷ []) ≡ map f xs ++ f y ∷ []
map_push f [] y = refl
map_push f (x ∷ xs) y = ap (λ zs. f x ∷ zs) (map_push f xs y)

-- an item of a map comes from one of the list
pub contains_map : {A B : Type 0} (f : A → B) (xs : List A) (y : B) → Contains (map f xs) y → (x : A) × Contains xs x × (y ≡ f x)
contains_map {A} {B} f xs y c = let m = from_listed y xs (map f xs) refl (contains_listed y (map f xs) c) in (m.0, listed_contains m.0 xs m.1, m.2)
  where
    from_listed : (w : B) (zs : List A) (ws : List B) → ws ≡ map f zs → Listed w ws → (x : A) × Listed x zs × (w ≡ f x)
    from_listed w zs [] e l = elim l [ ]
    from_listed w [] (v ∷ ws) e l = absurd (cc)
    from_listed w (z ∷ zs) (v ∷ ws) e first = (z, first, cc)
    from_listed w (z ∷ zs) (v ∷ ws) e (later l) = let m = from_listed w zs ws (cc) l in (m.0, later m.1, m.2)

-- an item of the list has its item in the map
pub map_contains : {A B : Type 0} (f : A → B) (xs : List A) (x : A) → Contains xs x → Contains (map f xs) (f x)
map_contains {A} {B} f xs x c = listed_contains (f x) (map f xs) (to_listed xs (contains_listed x xs c))
  where
    to_listed : (zs : List A) → Listed x zs → Listed (f x) (map f zs)
    to_listed [] l = elim l [ ]
    to_listed (z ∷ zs) first = first
    to_listed (z ∷ zs) (later l) = later (to_listed zs l)

-- the items before a place and the one there
pub take_more : {A : Type 0} (xs : List A) (i : ℕ) (x : A) → slice_get xs i ≡ Some x → take (i + 1) xs ≡ take i xs ++ x ∷ []
take_more xs i x e = ap (λ n. take n xs) (add_one i) ∙ take_suc xs i x e
  where
    add_one : (n : ℕ) → n + 1 ≡ suc n
    add_one n = omega arith

    take_suc : {A : Type 0} (ys : List A) (j : ℕ) (y : A) → slice_get ys j ≡ Some y → take (suc j) ys ≡ take j ys ++ y ∷ []
    take_suc [] j y d = absurd (none_not_some y d)
    take_suc (z ∷ ys) zero y d = ap (λ t. t ∷ []) (same_some z y d)
    take_suc (z ∷ ys) (suc j) y d = ap (λ t. z ∷ t) (take_suc ys j y d)

-- an item at a place stands in the list
pub get_contains : {A : Type 0} (xs : List A) (i : ℕ) (x : A) → slice_get xs i ≡ Some x → Contains xs x
get_contains xs i x e = listed_contains x xs (get_listed xs i x e)
  where
    get_listed : {A : Type 0} (ys : List A) (j : ℕ) (y : A) → slice_get ys j ≡ Some y → Listed y ys
    get_listed [] j y d = absurd (none_not_some y d)
    get_listed (z ∷ ys) zero y d = subst (λ t. Listed t (z ∷ ys)) (same_some z y d) first
    get_listed (z ∷ ys) (suc j) y d = later (get_listed ys j y d)

-- the item at the end
pub get_end : {A : Type 0} (xs : List A) (y : A) → slice_get (xs ++ y ∷ []) (length xs) ≡ Some y
get_end [] y = refl
get_end (x ∷ xs) y = get_end xs y

-- the other places are as before
pub get_other : {A : Type 0} (xs : List A) (y : A) (i : ℕ) → (i ≡ length xs → ⊥) → slice_get (xs ++ y ∷ []) i ≡ slice_get xs i
get_other [] y zero n = absurd (n refl)
get_other [] y (suc i) n = refl
get_other (x ∷ xs) y zero n = refl
get_other (x ∷ xs) y (suc i) n = get_other xs y i (λ e. n (ap suc e))
