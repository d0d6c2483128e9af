-- The ids that are answered are exactly those whose boxes meet, and rise.
use Rattle.std.proofs.Common.{◌≡◌, ℕ, Bool, true, false, cond, T, eqb, List, [], ◌∷◌, map, Option, Some, refl, sym, ap, ◌∙◌, subst, arith}
use Rattle.std.specs.FinMap as finite
use Rattle.std.specs.FinMap.{find, is_sorted, entries_sorted, get-entries}
use Rattle.std.specs.FinMap.Entries.{below_all}
use Rattle.std.specs.List.{filter, list_any, AllByRecursion}
use Rattle.std.specs.List.Sorted.{IsStrictlySortedBy}
use Rattle.std.specs.Ordering.{nat_cmp, is_lt, eq_by_cmp}
use Rattle.std.specs.declared.cmp.Ordering.{Ordering}
use Rattle.std.specs.declared.cmp.Ordering.TheVariants.{Less, Equal, Greater}
use Rattle.std.proofs.lemmas.Bool.{eq-eqb}
use Rattle.std.proofs.lemmas.Bool.Decides.{nat_tests}
use Rattle.rp_geometry.specs.Geometry.{IntegerBox}
use Rattle.rp_space.specs.declared.bounds.IntBox.{IntBox}
use Rattle.rp_boxindex.specs.Laws.{is_there_and_meets, MeetingIdsAreExact, MeetingIdsRise}
use Rattle.rp_boxindex.specs.Boxes.{Entry}
use Rattle.rp_boxindex.specs.Meeting.{meets, ids_that_meet}
use Rattle.rp_boxindex.proofs.Places.{at_is}
use Rattle.rp_algebra.proofs.Tests.{first_of_both, second_of_both}

less : (o : Ordering) → T (is_lt o) → o ≡ Less
less Less p = refl
less Equal p = absurd p
less Greater p = absurd p

above_one : (m : Bool) (x : ℕ) (e : Entry) (es : List Entry) → nat_cmp x e.0 ≡ Less → AllByRecursion (λ y. nat_cmp x y ≡ Less) (map (λ (z : Entry). z.0) es) → AllByRecursion (λ y. nat_cmp x y ≡ Less) (map (λ (z : Entry). z.0) (cond m (e ∷ es) es))
above_one true x e es h k = (h, k)
above_one false x e es h k = k

-- ids that are answered are above what all ids are above
ids_all_above : (c : Bool) (b : IntegerBox) (x : ℕ) (es : List Entry) → T (below_all nat_cmp x es) → AllByRecursion (λ y. nat_cmp x y ≡ Less) (ids_that_meet c b es)
ids_all_above c b x [] h = tt
ids_all_above c b x (e ∷ es) h = above_one (meets c b e) x e (filter (meets c b) es) (less (nat_cmp x e.0) (first_of_both _ _ h)) (ids_all_above c b x es (second_of_both _ _ h))

rise_one : (m : Bool) (e : Entry) (es : List Entry) → AllByRecursion (λ y. nat_cmp e.0 y ≡ Less) (map (λ (z : Entry). z.0) es) → IsStrictlySortedBy nat_cmp (map (λ (z : Entry). z.0) es) → IsStrictlySortedBy nat_cmp (map (λ (z : Entry). z.0) (cond m (e ∷ es) es))
unfolding IsStrictlySortedBy
rise_one true e es h k = (h, k)
rise_one false e es h k = k

ids_rise : (c : Bool) (b : IntegerBox) (es : List Entry) → T (is_sorted nat_cmp es) → IsStrictlySortedBy nat_cmp (ids_that_meet c b es)
unfolding IsStrictlySortedBy
ids_rise c b [] h = tt
ids_rise c b (e ∷ es) h = rise_one (meets c b e) e (filter (meets c b) es) (ids_all_above c b e.0 es (first_of_both _ _ h)) (ids_rise c b es (second_of_both _ _ h))

pub meeting_ids_rise_spec : MeetingIdsRise
meeting_ids_rise_spec c b boxes = ids_rise c b (finite.entries boxes) (entries_sorted boxes)

less_is_other : (x y : ℕ) → nat_cmp x y ≡ Less → eqb y x ≡ false
less_is_other x y h = grind (arith, nat_tests)

-- an id below all of a list is not on it
not_on : (x : ℕ) (ids : List ℕ) → AllByRecursion (λ y. nat_cmp x y ≡ Less) ids → list_any (λ i. eqb i x) ids ≡ false
not_on x [] h = refl
not_on x (y ∷ ys) h = rw (less_is_other x y h.0) (not_on x ys h.1)

equal_ids : (q k : ℕ) → eq_by_cmp nat_cmp q k ≡ true → q ≡ k
equal_ids q k h = at_is q k h

other_ids : (q k : ℕ) → eq_by_cmp nat_cmp q k ≡ false → eqb k q ≡ false
other_ids q k h = grind (arith, nat_tests)

exact_one : (c : Bool) (b : IntegerBox) (q : ℕ) (e : Entry) (fs : List Entry) (found : Option IntBox) (m k : Bool) → meets c b e ≡ m → eq_by_cmp nat_cmp q e.0 ≡ k → list_any (λ i. eqb i q) (map (λ (z : Entry). z.0) fs) ≡ is_there_and_meets c b found → (q ≡ e.0 → list_any (λ i. eqb i q) (map (λ (z : Entry). z.0) fs) ≡ false) → list_any (λ i. eqb i q) (map (λ (z : Entry). z.0) (cond m (e ∷ fs) fs)) ≡ is_there_and_meets c b (cond k (Some e.1) found)
exact_one c b q e fs found true true is at more none = rw (eq-eqb e.0 q (sym (equal_ids q e.0 at))) (sym is)
exact_one c b q e fs found false true is at more none = none (equal_ids q e.0 at) ∙ sym is
exact_one c b q e fs found true false is at more none = rw (other_ids q e.0 at) more
exact_one c b q e fs found false false is at more none = more

exact_list : (c : Bool) (b : IntegerBox) (es : List Entry) (q : ℕ) → T (is_sorted nat_cmp es) → list_any (λ i. eqb i q) (ids_that_meet c b es) ≡ is_there_and_meets c b (find nat_cmp q es)
exact_list c b [] q h = refl
exact_list c b (e ∷ es) q h =
    exact_one c b q e (filter (meets c b) es) (find nat_cmp q es) (meets c b e) (eq_by_cmp nat_cmp q e.0) refl refl (exact_list c b es q (second_of_both _ _ h)) (λ same. not_on q (ids_that_meet c b es) (ids_all_above c b q es (subst (λ k. T (below_all nat_cmp k es)) (sym same) (first_of_both _ _ h))))

pub meeting_ids_are_exact_spec : MeetingIdsAreExact
meeting_ids_are_exact_spec c b boxes q = exact_list c b (finite.entries boxes) q (entries_sorted boxes) ∙ ap (is_there_and_meets c b) (sym (get-entries boxes q))
