-- Lists of numbers that rise: two with the same items are one.
use Rattle.std.proofs.Common.{◌≡◌, ℕ, suc, ◌+◌, ◌<◌, ◌≤◌, Bool, true, false, cond, ◌&&◌, List, [], ◌∷◌, map, length, get_or, IsPermutation, ltb, refl, sym, ap, ap₂, ◌∙◌, arith}
use Rattle.std.specs.Prelude.{IsSorted}
use Rattle.std.specs.Ordering.{nat_cmp}
use Rattle.std.specs.declared.cmp.Ordering.TheVariants.{Less}
use Rattle.std.specs.List.{filter, AllByRecursion, count_by}
use Rattle.std.specs.List.Sorted.{IsStrictlySortedBy, IsNonDecreasingBy}
use Rattle.std.proofs.lemmas.List.Sorted.{IsNonDecreasingBy-from_sort, sum_by-IsPermutation}
use Rattle.std.proofs.lemmas.List.Recursion.{is_count_by}
use Rattle.std.proofs.lemmas.Bool.Decides.{nat_tests}
use borrow.Author.Tests.{ltb-false}
use Rattle.std.proofs.lemmas.Bool.{le-ltb}
use Rattle.rp_geometry.specs.Geometry.{IntegerBox}
use Rattle.rp_boxindex.specs.Counts.{count, SameCounts}
use Rattle.rp_boxindex.specs.Boxes.{Boxes, Entry}
use Rattle.rp_boxindex.specs.Meeting.{meets, ids_that_meet, meeting_ids}
use Rattle.std.specs.FinMap.{entries}
use Rattle.rp_boxindex.proofs.Exact.{meeting_ids_rise_spec}
use Rattle.rp_boxindex.proofs.Counts.{not_counted}

-- no later number is less
abbrev pub IsRising : List ℕ → Type 0
IsRising [] = Unit {0}
IsRising (x ∷ xs) = (count (λ y. ltb y x) xs ≡ 0) × IsRising xs

-- the first of a rising list is not above the first of another with the same items
first_not_above : (x : ℕ) (xs : List ℕ) (y : ℕ) (ys : List ℕ) → count (λ z. ltb z y) ys ≡ 0 → SameCounts (x ∷ xs) (y ∷ ys) → y ≤ x
first_not_above x xs y ys least same =
    let p : ℕ → Bool = λ z. ltb z y in
    let e = same p in
    let reflexive : y ≤ y = omega arith in
    let own : cond {A = ℕ} (p y) 1 0 ≡ 0 = ap (λ (b : Bool). cond {A = ℕ} b 1 0) (le-ltb y y reflexive) in
    let none : cond {A = ℕ} (p x) 1 0 + count p xs ≡ 0 = omega arith in
    ltb-false x y (not_counted (p x) (count p xs) none)

same_rising : (xs ys : List ℕ) → IsRising xs → IsRising ys → SameCounts xs ys → xs ≡ ys
same_rising [] [] r s same = refl
same_rising [] (y ∷ ys) r s same = let e = same (λ _. true) in absurd (omega arith)
same_rising (x ∷ xs) [] r s same = let e = same (λ _. true) in absurd (omega arith)
same_rising (x ∷ xs) (y ∷ ys) r s same =
    let ge : y ≤ x = first_not_above x xs y ys s.0 same in
    let le : x ≤ y = first_not_above y ys x xs r.0 (λ p. sym (same p)) in
    let head : x ≡ y = omega arith in
    let rest : SameCounts xs ys = λ p. (let e = same p in let f : cond {A = ℕ} (p x) 1 0 ≡ cond {A = ℕ} (p y) 1 0 = ap (λ (z : ℕ). cond {A = ℕ} (p z) 1 0) head in omega arith) in
    ap₂ (λ (z : ℕ) (zs : List ℕ). z ∷ zs) head (same_rising xs ys r.1 s.1 rest)

count_ids_one : (q : Bool) (r : ℕ → Bool) (e : Entry) (es : List Entry) (n : ℕ) → count r (map (λ (x : Entry). x.0) es) ≡ n → count r (map (λ (x : Entry). x.0) (cond q (e ∷ es) es)) ≡ cond {A = ℕ} (q && r e.0) 1 0 + n
count_ids_one true r e es n h = ap (λ k. cond {A = ℕ} (r e.0) 1 0 + k) h
count_ids_one false r e es n h = omega arith

-- of the ids found, those that pass
count_ids : (c : Bool) (b : IntegerBox) (r : ℕ → Bool) (es : List Entry) → count r (ids_that_meet c b es) ≡ count (λ e. meets c b e && r e.0) es
count_ids c b r [] = refl
count_ids c b r (e ∷ es) = count_ids_one (meets c b e) r e (filter (meets c b) es) (count (λ (x : Entry). meets c b x && r x.0) es) (count_ids c b r es)

pub same_ids : (c : Bool) (b : IntegerBox) (xs ys : List Entry) → SameCounts xs ys → SameCounts (ids_that_meet c b xs) (ids_that_meet c b ys)
same_ids c b xs ys same r = count_ids c b r xs ∙ (same (λ e. meets c b e && r e.0) ∙ sym (count_ids c b r ys))

less_is : (x y : ℕ) → nat_cmp x y ≡ Less → ltb y x ≡ false
less_is x y h = grind (arith, nat_tests)

none_below : (x : ℕ) (ys : List ℕ) → AllByRecursion (λ y. nat_cmp x y ≡ Less) ys → count (λ y. ltb y x) ys ≡ 0
none_below x [] h = refl
none_below x (y ∷ ys) h =
    let own : cond {A = ℕ} (ltb y x) 1 0 ≡ 0 = ap (λ (b : Bool). cond {A = ℕ} b 1 0) (less_is x y h.0) in
    let rest = none_below x ys h.1 in
    omega arith

pub rising_is : (xs : List ℕ) → IsStrictlySortedBy nat_cmp xs → IsRising xs
unfolding IsStrictlySortedBy
rising_is [] h = tt
rising_is (x ∷ xs) h = (none_below x xs h.0, rising_is xs h.1)

count_one : (b : Bool) (n : ℕ) → cond {A = ℕ} b 1 0 + n ≡ cond b (1 + n) n
count_one true n = refl
count_one false n = omega arith

count_is : {X : Type 0} (p : X → Bool) (xs : List X) → count p xs ≡ count_by p xs
count_is p xs = is_count_by (count p) p refl (λ x xs. count_one (p x) (count p xs)) xs

same_permutation : {X : Type 0} (xs ys : List X) → IsPermutation xs ys → SameCounts ys xs
same_permutation xs ys h p = count_is p ys ∙ (sum_by-IsPermutation (λ x. cond {A = ℕ} (p x) 1 0) xs ys h ∙ sym (count_is p xs))

none_less : (y : ℕ) (ys : List ℕ) → ((j : ℕ) → j < length ys → y ≤ get_or ys j 0) → count (λ z. ltb z y) ys ≡ 0
none_less y [] h = refl
none_less y (z ∷ zs) h =
    let first : y ≤ z = h 0 (omega arith) in
    let own : cond {A = ℕ} (ltb z y) 1 0 ≡ 0 = ap (λ (b : Bool). cond {A = ℕ} b 1 0) (le-ltb z y first) in
    let rest = none_less y zs (λ j lt. h (suc j) (omega arith)) in
    omega arith

rising_from : (ys : List ℕ) → IsNonDecreasingBy (λ x. x) ys → IsRising ys
rising_from [] h = tt
rising_from (y ∷ ys) h = (none_less y ys (λ j lt. h 0 (suc j) 0 (omega arith) (omega arith)), rising_from ys (λ i j d le lt. h (suc i) (suc j) d (omega arith) (omega arith)))

-- the ids of the tree's boxes, once sorted, are those of the map in order
pub sorted_ids : (c : Bool) (b : IntegerBox) (t : List Entry) (m : Boxes) (ids : List ℕ) → SameCounts (entries m) t → IsPermutation (ids_that_meet c b t) ids → IsSorted nat_cmp ids → ids ≡ meeting_ids c b m
sorted_ids c b t m ids same moved sorted =
    same_rising ids (meeting_ids c b m) (rising_from ids (IsNonDecreasingBy-from_sort (λ x. x) ids sorted)) (rising_is (meeting_ids c b m) (meeting_ids_rise_spec c b m)) (λ p. same_permutation (ids_that_meet c b t) ids moved p ∙ sym (same_ids c b (entries m) t same p))
