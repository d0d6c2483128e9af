-- The least number of a list that passes a test, in whatever order the list is gone through.
use Rattle.std.proofs.Common.{◌≡◌, ℕ, suc, ◌+◌, ◌<◌, ◌≤◌, Bool, true, false, cond, ◌&&◌, ltb, List, [], ◌∷◌, Option, Some, None, refl, ap, arith, inl, inr}
use Rattle.std.proofs.lemmas.Bool.{and_from, and_left, and_right, cases_order, le-ltb, lt-ltb, ltb-true}
use Rattle.std.specs.FinMap.{entries}
use Rattle.rp_geometry.specs.Geometry.{IntegerBox}
use Rattle.rp_boxindex.specs.Boxes.{Boxes, Entry}
use Rattle.rp_boxindex.specs.Counts.{count, SameCounts}
use Rattle.rp_boxindex.specs.declared.take.Least.{Least}
use Rattle.rp_boxindex.specs.Meeting.{ids_that_meet, meeting_ids, first_that}
use Rattle.rp_boxindex.specs.tree.Taking.{taken, lesser}
use Rattle.rp_boxindex.proofs.Counts.{count-none, count-le, when}
use Rattle.rp_boxindex.proofs.Exact.{meeting_ids_rise_spec}
use Rattle.rp_boxindex.proofs.Order.{and_parts}
use Rattle.rp_boxindex.proofs.Rising.{IsRising, rising_is, same_ids}

-- how many numbers pass and are less than one
abbrev below : (ℕ → Bool) → ℕ → List ℕ → ℕ
below p i xs = count (λ x. p x && ltb x i) xs

-- a number is the least that passes, or none passes
abbrev IsLeast : (ℕ → Bool) → List ℕ → Option ℕ → Type 0
IsLeast p xs None = count p xs ≡ 0
IsLeast p xs (Some i) = (below p i xs ≡ 0) × (0 < below p (suc i) xs)

below_more : (p : ℕ → Bool) (i j : ℕ) (xs : List ℕ) → i ≤ j → below p i xs ≤ below p j xs
below_more p i j xs le = count-le (λ x. p x && ltb x i) (λ x. p x && ltb x j) (λ x h. (let both = and_parts (p x) (ltb x i) h in let less = ltb-true x i both.1 in and_from (p x) (ltb x j) both.0 (lt-ltb x j (omega arith)))) xs

below_all : (p : ℕ → Bool) (i : ℕ) (xs : List ℕ) → below p i xs ≤ count p xs
below_all p i xs = count-le (λ x. p x && ltb x i) p (λ x h. (and_parts (p x) (ltb x i) h).0) xs

-- a list has at most one least number that passes
same_least : (p : ℕ → Bool) (xs : List ℕ) (r s : Option ℕ) → IsLeast p xs r → IsLeast p xs s → r ≡ s
same_least p xs None None h k = refl
same_least p xs None (Some j) h k = let all = below_all p (suc j) xs in let some = k.1 in absurd (omega arith)
same_least p xs (Some i) None h k = let all = below_all p (suc i) xs in let some = h.1 in absurd (omega arith)
same_least p xs (Some i) (Some j) h k =
    elim (cases_order i j) [
      | inl same ↦ ap (λ (n : ℕ). Some n) same
      | inr (inl less) ↦ let le = below_more p (suc i) j xs (omega arith) in let some = h.1 in let none = k.0 in absurd (omega arith)
      | inr (inr more) ↦ let le = below_more p (suc j) i xs (omega arith) in let some = k.1 in let none = h.0 in absurd (omega arith)
    ]

-- one number more, which is the least one now
now_least : (p : ℕ → Bool) (x : ℕ) (xs : List ℕ) → p x ≡ true → below p x xs ≡ 0 → IsLeast p (x ∷ xs) (Some x)
now_least p x xs passes none =
    let own = when (p x && ltb x x) false (and_right (p x) (ltb x x) (le-ltb x x (omega arith))) in
    let here = when (p x && ltb x (suc x)) true (and_from (p x) (ltb x (suc x)) passes (lt-ltb x (suc x) (omega arith))) in
    (omega arith, omega arith)

-- or which is not
still_least : (p : ℕ → Bool) (x i : ℕ) (xs : List ℕ) → (p x && ltb x i) ≡ false → IsLeast p xs (Some i) → IsLeast p (x ∷ xs) (Some i)
still_least p x i xs fails h =
    let own = when (p x && ltb x i) false fails in
    let none = h.0 in
    let some = h.1 in
    (omega arith, omega arith)

not_passing : (p : ℕ → Bool) (x : ℕ) (xs : List ℕ) (least : Option ℕ) → p x ≡ false → IsLeast p xs least → IsLeast p (x ∷ xs) least
not_passing p x xs None fails h = let own = when (p x) false fails in omega arith
not_passing p x xs (Some i) fails h = still_least p x i xs (and_left (p x) (ltb x i) fails) h

lesser_of_none : (p : ℕ → Bool) (x : ℕ) (xs : List ℕ) (b : Bool) → p x ≡ b → count p xs ≡ 0 → IsLeast p (x ∷ xs) (cond b (Some x) None)
lesser_of_none p x xs true passes h = let all = below_all p x xs in now_least p x xs passes (omega arith)
lesser_of_none p x xs false fails h = not_passing p x xs None fails h

lesser_of_some : (p : ℕ → Bool) (x i : ℕ) (xs : List ℕ) (l b : Bool) → ltb x i ≡ l → p x ≡ b → IsLeast p xs (Some i) → IsLeast p (x ∷ xs) (cond (l && b) (Some x) (Some i))
lesser_of_some p x i xs true true less passes h =
    let lt = ltb-true x i less in
    let le = below_more p x i xs (omega arith) in
    let none = h.0 in
    now_least p x xs passes (omega arith)
lesser_of_some p x i xs true false less fails h = not_passing p x xs (Some i) fails h
lesser_of_some p x i xs false b more is h = still_least p x i xs (and_right (p x) (ltb x i) more) h

lesser_is_least : (p : ℕ → Bool) (x : ℕ) (xs : List ℕ) (least : Option ℕ) → IsLeast p xs least → IsLeast p (x ∷ xs) (lesser p least x)
lesser_is_least p x xs None h = lesser_of_none p x xs (p x) refl h
lesser_is_least p x xs (Some i) h = lesser_of_some p x i xs (ltb x i) (p x) refl refl h

-- of all, which are those seen and those to come
taken_is_least : (p : ℕ → Bool) (least : Option ℕ) (seen xs all : List ℕ) → IsLeast p seen least → ((q : ℕ → Bool) → count q all ≡ count q seen + count q xs) → IsLeast p all (taken (lesser p) least xs)
taken_is_least p None seen [] all h sum = let n = sum p in omega arith
taken_is_least p (Some i) seen [] all h sum =
    let m = sum (λ x. p x && ltb x i) in
    let n = sum (λ x. p x && ltb x (suc i)) in
    let none = h.0 in
    let some = h.1 in
    (omega arith, omega arith)
taken_is_least p least seen (x ∷ xs) all h sum = taken_is_least p (lesser p least x) (x ∷ seen) xs all (lesser_is_least p x seen least h) (λ q. (let n = sum q in omega arith))

first_case : (p : ℕ → Bool) (x : ℕ) (xs : List ℕ) (b : Bool) (later : Option ℕ) → p x ≡ b → below p x xs ≡ 0 → IsLeast p xs later → IsLeast p (x ∷ xs) (cond b (Some x) later)
first_case p x xs true later passes none h = now_least p x xs passes none
first_case p x xs false later fails none h = not_passing p x xs later fails h

-- the first that passes of a list that rises
first_is_least : (p : ℕ → Bool) (xs : List ℕ) → IsRising xs → IsLeast p xs (first_that p xs)
first_is_least p [] rising = refl
first_is_least p (x ∷ xs) rising = first_case p x xs (p x) (first_that p xs) refl (count-none (λ y. p y && ltb y x) (λ y. ltb y x) (λ y h. (and_parts (p y) (ltb y x) h).1) xs rising.0) (first_is_least p xs rising.1)

-- a taker after an id
abbrev pub least_after : {C : Type 0} → (C → ℕ → Bool) → Least C → ℕ → Least C
least_after passes s id = record { choice = s.choice; id = lesser (passes s.choice.now) s.id id }

-- of what is taken the taker keeps the least that passes
pub taken-least : {C : Type 0} (passes : C → ℕ → Bool) (s : Least C) (ids : List ℕ) → (taken (least_after passes) s ids).id ≡ taken (lesser (passes s.choice.now)) s.id ids
taken-least passes s [] = refl
taken-least passes s (x ∷ xs) = taken-least passes (least_after passes s x) xs

-- the least id that passes, of the tree's boxes, is the first of the map's
pub least_is_first : (c : Bool) (b : IntegerBox) (t : List Entry) (m : Boxes) (p : ℕ → Bool) → SameCounts (entries m) t → taken (lesser p) None (ids_that_meet c b t) ≡ first_that p (meeting_ids c b m)
least_is_first c b t m p same =
    let all : List ℕ = meeting_ids c b m in
    let counts : (q : ℕ → Bool) → count q all ≡ 0 + count q (ids_that_meet c b t) = λ q. (let n = same_ids c b (entries m) t same q in omega arith) in
    same_least p all (taken (lesser p) None (ids_that_meet c b t)) (first_that p all) (taken_is_least p None [] (ids_that_meet c b t) all refl counts) (first_is_least p all (rising_is all (meeting_ids_rise_spec c b m)))
