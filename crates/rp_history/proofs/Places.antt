-- The places of live lots: they rise, that of a new lot comes last, and that of a lot that ends goes.
use Rattle.std.proofs.Common.{◌≡◌, ℕ, zero, suc, ◌+◌, ◌<◌, ◌≤◌, Bool, true, false, ◌&&◌, cond, List, [], ◌∷◌, ◌++◌, length, drop, get_or, Option, Some, None, slice_get, slice_set, ⊎_elim, sym, ap, ◌∙◌, subst, refl, arith}
use Rattle.std.specs.Prelude.{Result, Ok, Err, remove}
use Rattle.std.specs.List.{AllByRecursion}
use Rattle.std.specs.List.Sorted.{IsBinarySearchResult}
use Rattle.std.specs.Ordering.{nat_cmp}
use Rattle.std.specs.Result.{MatchResult}
use Rattle.std.proofs.lemmas.Bool.{cases_lt}
use Rattle.std.proofs.lemmas.List.Sorted.{searched}
use Rattle.rp_language.specs.Name.{Label}
use Rattle.rp_model.specs.states.State.{Lot, is_live, live_lots, live_lot}
use Rattle.rp_algebra.proofs.Lists.{get_some}
use Rattle.rp_history.proofs.Found.{found_is_live}
use Rattle.rp_history.specs.Places.{is_live_in, live_places, AreRising, IsOneOf}

-- ---- where they stand

-- what is left of a list, one item further
pub left_further : {A : Type 0} (xs : List A) (k : ℕ) (x : A) (ys : List A) → drop k xs ≡ x ∷ ys → (slice_get xs k ≡ Some x) × (drop (k + 1) xs ≡ ys)
left_further [] zero x ys e = absurd (cc)
left_further [] (suc k) x ys e = absurd (cc)
left_further (z ∷ xs) zero x ys e = let head : z ≡ x = cc in let tail : xs ≡ ys = cc in (ap Some head, tail)
left_further (z ∷ xs) (suc k) x ys e =
    let r = left_further xs k x ys e in
    let f : suc k + 1 ≡ suc (k + 1) = omega arith in
    (r.0, ap (λ (n : ℕ). drop n (z ∷ xs)) f ∙ r.1)

-- none stands before the first
pub none_before : {S : Type 0} (o : Option Label) (k : ℕ) (ls : List (Lot S)) (m : ℕ) → m ≤ k → AllByRecursion (λ j. m ≤ j) (live_places o k ls)
none_before o k [] m h = tt
none_before o k (l ∷ ls) m h = by (is_live_in o l) (none_before o (k + 1) ls m (omega (arith, h)))
  where
    by : (b : Bool) → AllByRecursion (λ j. m ≤ j) (live_places o (k + 1) ls) → AllByRecursion (λ j. m ≤ j) (cond b (k ∷ live_places o (k + 1) ls) (live_places o (k + 1) ls))
    by true later = (h, later)
    by false later = later

-- all are below the end
pub places_below : {S : Type 0} (n : ℕ) (o : Option Label) (k : ℕ) (ls : List (Lot S)) → k + length ls ≤ n → AllByRecursion (λ j. j < n) (live_places o k ls)
places_below n o k [] h = tt
places_below n o k (l ∷ ls) h = by (is_live_in o l) (places_below n o (k + 1) ls (omega (arith, h)))
  where
    by : (b : Bool) → AllByRecursion (λ j. j < n) (live_places o (k + 1) ls) → AllByRecursion (λ j. j < n) (cond b (k ∷ live_places o (k + 1) ls) (live_places o (k + 1) ls))
    by true later = (omega (arith, h), later)
    by false later = later

-- places that are all behind one
all_above : (k : ℕ) (ks : List ℕ) → AllByRecursion (λ m. k + 1 ≤ m) ks → (n : ℕ) → n < length ks → k < get_or ks n 0
all_above k [] h n g = absurd (omega (arith, g))
all_above k (m ∷ ks) h zero g = let f = h.0 in omega (arith, f)
all_above k (m ∷ ks) h (suc n) g = all_above k ks h.1 n (omega (arith, g))

-- they rise
places_rise : {S : Type 0} (o : Option Label) (k : ℕ) (ls : List (Lot S)) (i j : ℕ) → i < j → j < length (live_places o k ls) → get_or (live_places o k ls) i 0 < get_or (live_places o k ls) j 0
places_rise o k [] i j h g = absurd (omega (arith, g))
places_rise o k (l ∷ ls) i j h g = by (is_live_in o l) i j h (places_rise o (k + 1) ls) (none_before o (k + 1) ls (k + 1) (omega arith)) g
  where
    places : List ℕ
    places = live_places o (k + 1) ls

    by : (b : Bool) (i j : ℕ) → i < j → ((i j : ℕ) → i < j → j < length places → get_or places i 0 < get_or places j 0) → AllByRecursion (λ m. k + 1 ≤ m) places → j < length (cond b (k ∷ places) places) → get_or (cond b (k ∷ places) places) i 0 < get_or (cond b (k ∷ places) places) j 0
    by true i zero h later all g = absurd (omega (arith, h))
    by true zero (suc j) h later all g = all_above k places all j (omega (arith, g))
    by true (suc i) (suc j) h later all g = later i j (omega (arith, h)) (omega (arith, g))
    by false i j h later all g = later i j h g

-- all of them rise
pub all_rise : {S : Type 0} (lots : List (Lot S)) (o : Option Label) → AreRising (live_places o 0 lots)
all_rise lots o = places_rise o 0 lots

-- the number that a search has found
pub number_found : (ks : List ℕ) (k : ℕ) (r : Result ℕ ℕ) → AreRising ks → IsOneOf ks k → IsBinarySearchResult (λ y. nat_cmp y k) ks r → MatchResult r (λ i. (i < length ks) × (get_or ks i 0 ≡ k)) (λ i. ⊥)
number_found ks k r up one found = by r (searched ks k r found level)
  where
    level : (i j : ℕ) → i ≤ j → j < length ks → get_or ks i 0 ≤ get_or ks j 0
    level i j h g = ⊎_elim (λ f. let above = up i j f g in omega (arith, above)) (λ f. let e : i ≡ j = omega (arith, f, h) in let same = ap (λ n. get_or ks n 0) e in omega (arith, same)) (cases_lt i j)

    by : (r : Result ℕ ℕ) → MatchResult r (λ i. (i < length ks) × (get_or ks i 0 ≡ k)) (λ i. (i ≤ length ks) × ((j : ℕ) → j < i → get_or ks j 0 < k) × ((j : ℕ) → i ≤ j → j < length ks → k < get_or ks j 0)) → MatchResult r (λ i. (i < length ks) × (get_or ks i 0 ≡ k)) (λ i. ⊥)
    by (Ok i) h = h
    by (Err i) h = ⊎_elim (λ f. let low = h.1 one.number f in let is = one.is in absurd (omega (arith, low, is))) (λ f. let high = h.2 one.number f one.below in let is = one.is in absurd (omega (arith, high, is))) (cases_lt one.number i)

-- there are as many as live lots
pub live_counted : {S : Type 0} (k : ℕ) (ls : List (Lot S)) → length (live_places None k ls) ≡ length (live_lots ls)
live_counted k [] = refl
live_counted k (l ∷ ls) = by (is_live l) (live_counted (k + 1) ls)
  where
    places : List ℕ
    places = live_places None (k + 1) ls

    by : (b : Bool) → length places ≡ length (live_lots ls) → length (cond (b && true) (k ∷ places) places) ≡ length (cond b (l ∷ live_lots ls) (live_lots ls))
    by true later = ap suc later
    by false later = later

-- they are no more than the lots
pub places_few : {S : Type 0} (o : Option Label) (k : ℕ) (ls : List (Lot S)) → length (live_places o k ls) ≤ length ls
places_few o k [] = omega arith
places_few o k (l ∷ ls) = by (is_live_in o l) (places_few o (k + 1) ls)
  where
    by : (b : Bool) → length (live_places o (k + 1) ls) ≤ length ls → length (cond b (k ∷ live_places o (k + 1) ls) (live_places o (k + 1) ls)) ≤ length (l ∷ ls)
    by true later = omega (arith, later)
    by false later = omega (arith, later)

-- ---- what becomes of them

-- a live lot more comes last
pub one_more : {S : Type 0} (k : ℕ) (ls : List (Lot S)) (l : Lot S) → is_live l ≡ true → live_places None k (ls ++ l ∷ []) ≡ live_places None k ls ++ (k + length ls) ∷ []
one_more k [] l e =
    let same : k ≡ k + 0 = omega arith in
    ap (λ (b : Bool). cond (b && true) (k ∷ []) []) e ∙ ap (λ (n : ℕ). n ∷ []) same
one_more {S = S} k (m ∷ ls) l e = by (is_live m) (one_more (k + 1) ls l e)
  where
    next : k + 1 + length ls ≡ k + suc (length ls)
    next = omega arith

    places : List ℕ
    places = live_places None (k + 1) ls

    more : List ℕ
    more = live_places None (k + 1) (ls ++ l ∷ [])

    by : (b : Bool) → more ≡ places ++ (k + 1 + length ls) ∷ [] → cond (b && true) (k ∷ more) more ≡ cond (b && true) (k ∷ places) places ++ (k + suc (length ls)) ∷ []
    by true later = ap (λ (ks : List ℕ). k ∷ ks) (later ∙ ap (λ (n : ℕ). places ++ n ∷ []) next)
    by false later = later ∙ ap (λ (n : ℕ). places ++ n ∷ []) next

-- the place of a live lot is one of them
pub live_there : {S : Type 0} (k : ℕ) (ls : List (Lot S)) (j : ℕ) (l : Lot S) → slice_get ls j ≡ Some l → is_live l ≡ true → IsOneOf (live_places None k ls) (k + j)
live_there k [] j l at e = absurd (cc)
live_there {S = S} k (h ∷ ls) zero l at e =
    let same : h ≡ l = cc in
    subst (λ (b : Bool). IsOneOf (cond (b && true) (k ∷ live_places None (k + 1) ls) (live_places None (k + 1) ls)) (k + 0)) (sym (ap (λ (m : Lot S). is_live m) same ∙ e))
    (record { number = 0; below = omega arith; is = omega arith })
live_there k (h ∷ ls) (suc j) l at e = by (is_live h) (live_there (k + 1) ls j l at e)
  where
    places : List ℕ
    places = live_places None (k + 1) ls

    next : k + 1 + j ≡ k + suc j
    next = omega arith

    by : (b : Bool) → IsOneOf places (k + 1 + j) → IsOneOf (cond (b && true) (k ∷ places) places) (k + suc j)
    by true one = record { number = suc one.number; below = let f = one.below in omega (arith, f); is = one.is ∙ next }
    by false one = record { number = one.number; below = one.below; is = one.is ∙ next }

-- so is that at which a live lot is found
pub live_found : {S : Type 0} (x : Label) (lots : List (Lot S)) (k : ℕ) → k < length lots → slice_get lots k ≡ live_lot x lots → IsOneOf (live_places None 0 lots) k
live_found x lots k h found =
    let l = get_some lots k h in
    let same : 0 + k ≡ k = omega arith in
    subst (IsOneOf (live_places None 0 lots)) same (live_there 0 lots k l.0 l.1 (found_is_live x lots l.0 (sym found ∙ l.1)))

-- the place of a lot that ends goes
pub one_gone : {S : Type 0} (m k : ℕ) (ls : List (Lot S)) (j : ℕ) (l : Lot S) (n : ℕ) → slice_get ls j ≡ Some l → n < length (live_places None k ls) → get_or (live_places None k ls) n 0 ≡ k + j →
    remove (live_places None k ls) n ≡ live_places None k (slice_set ls j (record l { ended = Some m }))
one_gone m k [] j l n at below is = absurd (cc)
one_gone m k (h ∷ ls) zero l n at below is = by (is_live h) n below is
  where
    places : List ℕ
    places = live_places None (k + 1) ls

    behind : (n : ℕ) → n < length places → get_or places n 0 ≡ k + 0 → ⊥
    behind n f e = let above = all_above k places (none_before None (k + 1) ls (k + 1) (omega arith)) n f in omega (arith, above, e)

    by : (b : Bool) (n : ℕ) → n < length (cond (b && true) (k ∷ places) places) → get_or (cond (b && true) (k ∷ places) places) n 0 ≡ k + 0 → remove (cond (b && true) (k ∷ places) places) n ≡ places
    by true zero f e = refl
    by true (suc n) f e = absurd (behind n (omega (arith, f)) e)
    by false n f e = absurd (behind n f e)
one_gone {S = S} m k (h ∷ ls) (suc j) l n at below is = by (is_live h) n below is (λ i f e. let next : k + suc j ≡ k + 1 + j = omega arith in one_gone m (k + 1) ls j l i at f (e ∙ next))
  where
    places : List ℕ
    places = live_places None (k + 1) ls

    left : List ℕ
    left = live_places None (k + 1) (slice_set ls j (record l { ended = Some m }))

    by : (b : Bool) (n : ℕ) → n < length (cond (b && true) (k ∷ places) places) → get_or (cond (b && true) (k ∷ places) places) n 0 ≡ k + suc j → ((i : ℕ) → i < length places → get_or places i 0 ≡ k + suc j → remove places i ≡ left) →
        remove (cond (b && true) (k ∷ places) places) n ≡ cond (b && true) (k ∷ left) left
    by true zero f e later = absurd (omega (arith, e))
    by true (suc n) f e later = ap (λ (ks : List ℕ). k ∷ ks) (later n (omega (arith, f)) e)
    by false n f e later = later n f e
