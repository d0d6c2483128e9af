-- Lists of pairs under ids: what is found at an id, and how many pairs it has.
use Rattle.std.proofs.Common.{◌≡◌, ℕ, ◌+◌, ◌<◌, ◌≤◌, Bool, true, false, cond, ◌&&◌, ltb, List, [], ◌∷◌, map, Option, Some, None, is_some, refl, sym, ap, ap₂, ◌∙◌, arith, subst}
use Rattle.std.specs.Ordering.{nat_cmp, is_eq, match_ordering}
use Rattle.std.specs.declared.cmp.Ordering.{Ordering}
use Rattle.std.specs.declared.cmp.Ordering.TheVariants.{Less, Equal, Greater}
use Rattle.std.specs.Cmp.{nat_cmp_total, tied_itself}
use Rattle.std.specs.FinMap.{nat_cmp-IsAntisymmetric}
use Rattle.std.specs.Map.{lookup, remove_entry, keys_of}
use Rattle.std.specs.BTreeMap.{is_at, insert_entry}
use Rattle.std.specs.List.{AllByRecursion}
use Rattle.std.specs.List.Sorted.{IsStrictlySortedBy}
use Rattle.std.proofs.lemmas.Bool.{lt-ltb}
use Rattle.std.proofs.lemmas.Bool.Decides.{nat_tests}
use Rattle.rp_algebra.proofs.Options.{some_not_none}
use Rattle.rp_boxindex.specs.Counts.{count, SameCounts}
use Rattle.rp_boxindex.proofs.Counts.{count-none, false_not_true, when, not_counted}
use Rattle.rp_boxindex.proofs.Order.{and_parts}

-- whether a pair has the id
abbrev pub has_id : {Y : Type 0} → ℕ → ℕ × Y → Bool
has_id k e = is_at (nat_cmp k) e.0

-- no id stands twice
abbrev pub IsUnique : {Y : Type 0} → List (ℕ × Y) → Type 0
IsUnique {Y} es = (k : ℕ) → count (has_id {Y = Y} k) es ≤ 1

pub count-map : {X Y : Type 0} (f : X → Y) (p : Y → Bool) (xs : List X) → count p (map f xs) ≡ count (λ x. p (f x)) xs
count-map f p [] = refl
count-map f p (x ∷ xs) = ap (λ n. cond (p (f x)) 1 0 + n) (count-map f p xs)

equal_is : (o : Ordering) → is_eq o ≡ true → o ≡ Equal
equal_is Less h = absurd (false_not_true h)
equal_is Equal h = refl
equal_is Greater h = absurd (false_not_true h)

pub at_is : (k j : ℕ) → is_at (nat_cmp k) j ≡ true → k ≡ j
at_is k j h = nat_cmp-IsAntisymmetric k j (equal_is (nat_cmp k j) h)

pub at_itself : (k j : ℕ) → k ≡ j → is_at (nat_cmp k) j ≡ true
at_itself k j e = subst (λ n. is_at (nat_cmp k) n ≡ true) e (ap is_eq (tied_itself nat_cmp_total k))

-- whether a pair is found is whether one is counted
found_one : {Y : Type 0} (b : Bool) (v : Y) (rest : Option Y) (n : ℕ) → is_some rest ≡ ltb 0 n → is_some (cond b (Some v) rest) ≡ ltb 0 (cond {A = ℕ} b 1 0 + n)
found_one true v rest n h = let some : 0 < 1 + n = omega arith in sym (lt-ltb 0 (1 + n) some)
found_one false v rest n h = let e : 0 + n ≡ n = omega arith in rw e h

pub is_some-count : {Y : Type 0} (es : List (ℕ × Y)) (k : ℕ) → is_some (lookup (is_at (nat_cmp k)) es) ≡ ltb 0 (count (has_id k) es)
is_some-count [] k = refl
is_some-count (e ∷ es) k = found_one (is_at (nat_cmp k) e.0) e.1 (lookup (is_at (nat_cmp k)) es) (count (has_id k) es) (is_some-count es k)

none_split : {Y : Type 0} (b : Bool) (v : Y) (rest : Option Y) → cond b (Some v) rest ≡ None → (b ≡ false) × (rest ≡ None)
none_split true v rest h = absurd (some_not_none v h)
none_split false v rest h = (refl, h)

pub none_at : {Y : Type 0} (es : List (ℕ × Y)) (k : ℕ) → lookup (is_at (nat_cmp k)) es ≡ None → count (has_id k) es ≡ 0
none_at [] k h = refl
none_at (e ∷ es) k h =
    let parts = none_split (is_at (nat_cmp k) e.0) e.1 (lookup (is_at (nat_cmp k)) es) h in
    let rest = none_at es k parts.1 in
    let own : cond {A = ℕ} (is_at (nat_cmp k) e.0) 1 0 ≡ 0 = when (is_at (nat_cmp k) e.0) false parts.0 in
    omega arith

pub none_found : {Y : Type 0} (es : List (ℕ × Y)) (k : ℕ) → count (has_id k) es ≡ 0 → lookup (is_at (nat_cmp k)) es ≡ None
none_found [] k h = refl
none_found (e ∷ es) k h =
    let own = not_counted (is_at (nat_cmp k) e.0) (count (has_id k) es) h in
    let rest : count (has_id k) es ≡ 0 = omega arith in
    rw own (none_found es k rest)

-- a pair more
insert_cases : {Y : Type 0} (o : Ordering) (k : ℕ) (v : Y) (e : ℕ × Y) (es rest : List (ℕ × Y)) (p : ℕ × Y → Bool) → is_eq o ≡ false → count p rest ≡ cond (p (k, v)) 1 0 + count p es → count p (match_ordering o ((k, v) ∷ e ∷ es) ((e.0, v) ∷ es) (e ∷ rest)) ≡ cond (p (k, v)) 1 0 + (cond (p e) 1 0 + count p es)
insert_cases Less k v e es rest p apart h = refl
insert_cases Equal k v e es rest p apart h = absurd (false_not_true (sym apart))
insert_cases Greater k v e es rest p apart h = omega arith

pub inserted_counts : {Y : Type 0} (es : List (ℕ × Y)) (k : ℕ) (v : Y) → lookup (is_at (nat_cmp k)) es ≡ None → SameCounts (insert_entry nat_cmp es k v) ((k, v) ∷ es)
inserted_counts [] k v h p = refl
inserted_counts (e ∷ es) k v h p =
    let parts = none_split (is_at (nat_cmp k) e.0) e.1 (lookup (is_at (nat_cmp k)) es) h in
    insert_cases (nat_cmp k e.0) k v e es (insert_entry nat_cmp es k v) p parts.0 (inserted_counts es k v parts.1 p)

-- a pair less
remove_cases : {Y : Type 0} (b : Bool) (k : ℕ) (v : Y) (e : ℕ × Y) (es rest : List (ℕ × Y)) (found : Option Y) (p : ℕ × Y → Bool) → (b ≡ true → k ≡ e.0) → cond b (Some e.1) found ≡ Some v → (found ≡ Some v → count p es ≡ cond (p (k, v)) 1 0 + count p rest) → cond (p e) 1 0 + count p es ≡ cond (p (k, v)) 1 0 + count p (cond b es (e ∷ rest))
remove_cases {Y} true k v e es rest found p at is h =
    let same : e.1 ≡ v = cc in
    let own : (e.0, e.1) ≡ (k, v) = ap₂ (λ (i : ℕ) (b : Y). (i, b)) (sym (at refl)) same in
    ap (λ (x : ℕ × Y). cond (p x) 1 0 + count p es) own
remove_cases false k v e es rest found p at is h = let less = h is in omega arith

pub removed_counts : {Y : Type 0} (es : List (ℕ × Y)) (k : ℕ) (v : Y) → lookup (is_at (nat_cmp k)) es ≡ Some v → SameCounts es ((k, v) ∷ remove_entry (is_at (nat_cmp k)) es)
removed_counts [] k v h p = absurd (some_not_none v (sym h))
removed_counts (e ∷ es) k v h p = remove_cases (is_at (nat_cmp k) e.0) k v e es (remove_entry (is_at (nat_cmp k)) es) (lookup (is_at (nat_cmp k)) es) p (at_is k e.0) h (λ found. removed_counts es k v found p)

-- pairs in the order of their ids have no id twice
none_later : {Y : Type 0} (x : ℕ) (es : List (ℕ × Y)) → AllByRecursion (λ y. nat_cmp x y ≡ Less) (keys_of es) → count (has_id x) es ≡ 0
none_later x [] h = refl
none_later x (e ∷ es) h =
    let own : cond {A = ℕ} (is_at (nat_cmp x) e.0) 1 0 ≡ 0 = when (is_at (nat_cmp x) e.0) false (ap is_eq h.0) in
    let rest = none_later x es h.1 in
    omega arith

unique_one : {Y : Type 0} (q : ℕ) (e : ℕ × Y) (es : List (ℕ × Y)) (b : Bool) → is_at (nat_cmp q) e.0 ≡ b → count (has_id e.0) es ≡ 0 → count (has_id q) es ≤ 1 → cond {A = ℕ} (is_at (nat_cmp q) e.0) 1 0 + count (has_id q) es ≤ 1
unique_one {Y} q e es true at none rest =
    let own = when (is_at (nat_cmp q) e.0) true at in
    let same : count (has_id {Y = Y} q) es ≡ count (has_id e.0) es = ap (λ (k : ℕ). count (has_id {Y = Y} k) es) (at_is q e.0 at) in
    omega arith
unique_one q e es false at none rest = let own = when (is_at (nat_cmp q) e.0) false at in omega arith

pub sorted_unique : {Y : Type 0} (es : List (ℕ × Y)) → IsStrictlySortedBy nat_cmp (keys_of es) → IsUnique es
unfolding IsStrictlySortedBy
sorted_unique [] h q = omega arith
sorted_unique (e ∷ es) h q = unique_one q e es (is_at (nat_cmp q) e.0) refl (none_later e.0 es h.0) (sorted_unique es h.1 q)

-- of what is found at an id that stands once, the tests are known
pub found_counts : {Y : Type 0} (es : List (ℕ × Y)) (k : ℕ) (v : Y) (p : ℕ × Y → Bool) → lookup (is_at (nat_cmp k)) es ≡ Some v → count (has_id k) es ≤ 1 → count (λ e. has_id k e && p e) es ≡ cond (p (k, v)) 1 0
found_counts {Y} es k v p h once =
    let id : ℕ × Y → Bool = has_id k in
    let both : ℕ × Y → Bool = λ e. has_id k e && p e in
    let own : ℕ × Y = (k, v) in
    let rest : List (ℕ × Y) = remove_entry (is_at (nat_cmp k)) es in
    let at : id own ≡ true = at_itself k k refl in
    let a = removed_counts es k v h id in
    let b = removed_counts es k v h both in
    let one = when (id own) true at in
    let none : count id rest ≡ 0 = omega arith in
    let none_both = count-none both id (λ e t. (and_parts (id e) (p e) t).0) rest none in
    let own_both : cond {A = ℕ} (both own) 1 0 ≡ cond {A = ℕ} (p own) 1 0 = ap (λ (c : Bool). cond {A = ℕ} (c && p own) 1 0) at in
    omega arith

-- a number below another is below all that are above that one
less_trans : (a b c : ℕ) → nat_cmp a b ≡ Less → nat_cmp b c ≡ Less → nat_cmp a c ≡ Less
less_trans a b c h k = grind (arith, nat_tests)

all_above : {Y : Type 0} (k x : ℕ) (es : List (ℕ × Y)) → nat_cmp k x ≡ Less → AllByRecursion (λ y. nat_cmp x y ≡ Less) (keys_of es) → AllByRecursion (λ y. nat_cmp k y ≡ Less) (keys_of es)
all_above k x [] h all = tt
all_above k x (e ∷ es) h all = (less_trans k x e.0 h all.0, all_above k x es h all.1)

-- an id that is found is not below the first
not_less : {Y : Type 0} (k : ℕ) (v : Y) (e : ℕ × Y) (es : List (ℕ × Y)) → AllByRecursion (λ y. nat_cmp e.0 y ≡ Less) (keys_of es) → lookup (is_at (nat_cmp k)) (e ∷ es) ≡ Some v → nat_cmp k e.0 ≡ Less → ⊥
not_less k v e es above found less =
    let own : is_at (nat_cmp k) e.0 ≡ false = ap is_eq less in
    let later : lookup (is_at (nat_cmp k)) es ≡ Some v = rw own at found in
    some_not_none v (sym later ∙ none_found es k (none_later k es (all_above k e.0 es less above)))

-- a pair in the place of another
changed_cases : {Y : Type 0} (o : Ordering) (k : ℕ) (w : Y) (e : ℕ × Y) (es rest less : List (ℕ × Y)) (p : ℕ × Y → Bool) → (o ≡ Less → ⊥) → (o ≡ Equal → k ≡ e.0) → (o ≡ Greater → count p rest ≡ cond (p (k, w)) 1 0 + count p less)
    → count p (match_ordering o ((k, w) ∷ e ∷ es) ((e.0, w) ∷ es) (e ∷ rest)) ≡ cond (p (k, w)) 1 0 + count p (cond (is_eq o) es (e ∷ less))
changed_cases Less k w e es rest less p not own h = absurd (not refl)
changed_cases Equal k w e es rest less p not own h = ap (λ (i : ℕ). cond {A = ℕ} (p (i, w)) 1 0 + count p es) (sym (own refl))
changed_cases Greater k w e es rest less p not own h = let more = h refl in omega arith

pub changed_counts : {Y : Type 0} (es : List (ℕ × Y)) (k : ℕ) (v w : Y) → IsStrictlySortedBy nat_cmp (keys_of es) → lookup (is_at (nat_cmp k)) es ≡ Some v → SameCounts (insert_entry nat_cmp es k w) ((k, w) ∷ remove_entry (is_at (nat_cmp k)) es)
unfolding IsStrictlySortedBy
changed_counts [] k v w order found p = absurd (some_not_none v (sym found))
changed_counts (e ∷ es) k v w order found p =
    changed_cases (nat_cmp k e.0) k w e es (insert_entry nat_cmp es k w) (remove_entry (is_at (nat_cmp k)) es) p
    (not_less k v e es order.0 found)
    (λ same. nat_cmp-IsAntisymmetric k e.0 same)
    (λ greater. let own : is_at (nat_cmp k) e.0 ≡ false = ap is_eq greater in let later : lookup (is_at (nat_cmp k)) es ≡ Some v = rw own at found in changed_counts es k v w order.1 later p)
